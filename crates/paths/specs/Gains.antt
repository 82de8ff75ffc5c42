-- `path_candidate`, and the end of `validate_image_path`: what arrives, and whether it counts.
use Rattle.std.specs.Prelude.{ℕ, Float, Bool, cond, not, ◌&&◌, List}
use Rattle.std.specs.Float.{binary32}
use Rattle.std.specs.Float.Ieee.{mul, div, lt, of_bits}
use mathlib.Core.List.{foldl}
use Rattle.float.specs.Literals.{zero32, one32}
use Rattle.float.specs.Compare.{is_finite}
use Rattle.vector.specs.declared.Vec3.{Vec3}
use Rattle.vector.specs.Vector.{sub3_of, normalize3_of}
use Rattle.geometry.specs.declared.Triangle.{Triangle}
use Rattle.bands.specs.declared.Band8.{Band8}
use Rattle.bands.specs.declared.DistanceModel.{DistanceModel}
use Rattle.bands.specs.Band8.{splat_of, mul_of, scale_of, sum_of_squares_of}
use Rattle.bands.specs.Distance.{gain_of}
use Rattle.air.specs.declared.Air.{Air}
use Rattle.air.specs.Air.{air_gain_of}
use Rattle.scene.specs.declared.Settings.{Settings}
use Rattle.scene.specs.Speed.{speed_of}
use Rattle.segments.specs.Materials.{reflection_of_handle}
use Rattle.paths.specs.declared.PathCandidate.{PathCandidate}
use Rattle.paths.specs.declared.Fate.{Fate}
use Rattle.paths.specs.declared.Fate.TheVariants.{Faded, Blocked, Faint, Passed}

-- 1e-14: 'A candidate's squared-gain sum must exceed 1e-14'
abbrev pub least_energy : Float
least_energy = of_bits binary32 0x2834_24dc

-- 1e-3 and 1e-6, which part the reasons
abbrev pub least_weight : Float
least_weight = of_bits binary32 0x3a83_126f

abbrev pub least_blocker : Float
least_blocker = of_bits binary32 0x3586_37bd

-- `!(total.is_finite() && total > 0.0) || total > max_reflection_distance` is too long
unfoldable pub usable_of : Float → Float → Bool
usable_of total far = is_finite total && (lt zero32 total && not (lt far total))

-- `refl`: the product of what the triangles reflect, source side first
unfoldable pub reflected_of : List Float → (ℕ → Triangle) → List ℕ → Band8
reflected_of materials tri is = foldl (λ g i. mul_of g (reflection_of_handle materials (tri i).material_handle)) (splat_of one32) is

-- `gain` of `path_candidate`: by reflection, distance, air and edge weight
unfoldable pub gains_of : DistanceModel → Air → Band8 → Float → Float → Band8
gains_of model air reflection total weight = scale_of (mul_of reflection (mul_of (splat_of (gain_of model total)) (air_gain_of air total))) weight

-- why too little arrives, as `RejectReason` parts it
unfoldable pub rejected_of : Float → Band8 → Fate
rejected_of weight blocker = cond (lt weight least_weight) Faded (cond (lt (sum_of_squares_of blocker) least_blocker) Blocked Faint)

-- `PathCandidate`: `last` is the bounce next to the listener
unfoldable pub candidate_of : Settings → Vec3 → Vec3 → Float → Band8 → PathCandidate
candidate_of s last listener total gains =
    record {
      energy = sum_of_squares_of gains;
      delay = div binary32 (mul binary32 total s.sample_rate) (speed_of s.temperature_celsius);
      direction = normalize3_of (sub3_of last listener);
      gains = gains;
    }

-- the two tests of the energy, before and after what is in the way is taken off
unfoldable pub arrived_of : Settings → Vec3 → Vec3 → Float → Float → Band8 → Band8 → Fate
arrived_of s last listener total weight gains blocker =
    cond (lt least_energy (sum_of_squares_of gains))
    (cond (lt least_energy (sum_of_squares_of (mul_of gains blocker))) (Passed (candidate_of s last listener total (mul_of gains blocker))) (rejected_of weight blocker))
    Faint
