-- The image of the source in a sequence of planes. Document 01: 'its image being the source mirrored in those planes in turn'.
use Rattle.std.specs.Prelude.{ℕ, Bool, take, List}
use mathlib.Core.List.{foldl}
use Rattle.std.specs.Float.Ieee.{lt}
use Rattle.float.specs.Compare.{abs_of}
use Rattle.vector.specs.declared.Vec3.{Vec3}
use Rattle.mirror.specs.Plane.{Plane, nth_plane}
use Rattle.mirror.specs.Mirror.{side_eps, signed_distance_of, mirror_of}

-- document 01: a first plane is one 'whose signed distance from the source is not under 1e-4 in absolute value'
unfoldable pub lies_on_of : Plane → Vec3 → Bool
lies_on_of plane source = lt (abs_of (signed_distance_of plane source)) side_eps

unfoldable pub image_of : List Plane → Vec3 → List ℕ → Vec3
image_of planes source seq = foldl (λ v p. mirror_of (nth_plane planes p) v) source seq

-- `images[k]`: that of the first k planes
abbrev pub image_at : List Plane → Vec3 → List ℕ → ℕ → Vec3
image_at planes source seq k = image_of planes source (take k seq)
