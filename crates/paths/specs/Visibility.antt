-- The second loop of `validate_image_path`: 'Visibility of every segment L -> B_n -> .. -> B_1 -> S', and the length of the whole.
-- `soft` says what is left of a sound along a segment, and the traces made for it.
use Rattle.std.specs.Prelude.{◌+◌, List, [], ◌∷◌}
use Rattle.std.specs.Float.{binary32}
use Rattle.std.specs.Float.Ieee.{add}
use Rattle.float.specs.Literals.{zero32, one32}
use Rattle.vector.specs.declared.Vec3.{Vec3}
use Rattle.vector.specs.Vector.{distance3_of}
use Rattle.bands.specs.Band8.{splat_of, mul_of}
use Rattle.segments.specs.declared.Transmission.{Transmission}
use Rattle.paths.specs.declared.Way.{Way}

-- nothing of the way gone
unfoldable pub start_of : Vec3 → Way
start_of listener = record { gain = splat_of one32; total = zero32; from = listener; rays = 0 }

-- one segment more: `blocker_gain.mul(&segment_gain)`, `total += distance3(from, to)`
unfoldable pub go_of : (Vec3 → Vec3 → Transmission) → Vec3 → Way → Way
go_of soft to w =
    record {
      gain = mul_of w.gain (soft w.from to).gain;
      total = add binary32 w.total (distance3_of w.from to);
      from = to;
      rays = w.rays + (soft w.from to).rays;
    }

-- `for k in (0..n).rev()`: the bounces stand source side first, and the way goes from the last to the first
unfoldable pub go_all_of : (Vec3 → Vec3 → Transmission) → Way → List Vec3 → Way
go_all_of soft w [] = w
go_all_of soft w (b ∷ bs) = go_of soft b (go_all_of soft w bs)

-- and on to the source
unfoldable pub way_of : (Vec3 → Vec3 → Transmission) → Vec3 → Vec3 → List Vec3 → Way
way_of soft listener source bs = go_of soft source (go_all_of soft (start_of listener) bs)
