-- The first loop of `validate_image_path`, from the listener back to the source: the bounce on each plane, the last plane first.
use Rattle.std.specs.Prelude.{ℕ, zero, suc, Float, length, get_or, List, [], ◌∷◌, Option, None, Some, Result, Ok, Err, ok_or}
use Rattle.std.specs.Float.{binary32}
use Rattle.std.specs.Float.Ieee.{mul}
use Rattle.float.specs.Literals.{one32}
use Rattle.vector.specs.declared.Vec3.{Vec3}
use Rattle.geometry.specs.declared.Triangle.{Triangle}
use Rattle.mirror.specs.Plane.{Plane, nth_plane}
use Rattle.mirror.specs.Mirror.{crossing_of}
use Rattle.mirror.specs.Locate.{Located, locate_on_plane_of}
use Rattle.bounces.specs.declared.Lost.{Lost}
use Rattle.bounces.specs.declared.Lost.TheVariants.{NotCrossed, OffSurface}
use Rattle.bounces.specs.Image.{image_at}

-- one bounce: the triangle, the edge weight and the point
abbrev pub Bounce : Type 0
Bounce = Result (ℕ × Float × Vec3) Lost

abbrev pub located_of : Located → Bounce
located_of l = ok_or l OffSurface

abbrev pub crossed_of : (Vec3 → Located) → Option Vec3 → Bounce
crossed_of locate None = Err NotCrossed
crossed_of locate (Some b) = located_of (locate b)

-- one turn of the loop: the segment from `prev` to the image `target` must cross the plane, and on its surface
unfoldable pub bounce_of : (ℕ → Triangle) → Float → Plane → Vec3 → Vec3 → Bounce
bounce_of tri fade plane prev target = crossed_of (locate_on_plane_of tri fade plane) (crossing_of plane prev target)

-- the same by its point alone
abbrev pub turn_of : Bounce → Result Vec3 Lost
turn_of (Err e) = Err e
turn_of (Ok (i, w, q)) = Ok q

-- all turns: a plane is not crossed, or a point is off the surface, or `pts`, `tri_of` (source side first) and `edge_w`
pub data Bounces : Type 0 where
  not_crossed off_surface : Bounces
  made : List Vec3 → List ℕ → Float → Bounces

abbrev pub then_of : (ℕ → Float → Vec3 → Bounces) → Bounce → Bounces
then_of on (Err NotCrossed) = not_crossed
then_of on (Err OffSurface) = off_surface
then_of on (Ok (i, w, q)) = on i w q

-- `for k in (1..=n).rev()`, with k turns left: plane k - 1 of the sequence, and the image in its first k planes
unfoldable pub back_of : (ℕ → Triangle) → Float → (ℕ → Plane) → (ℕ → Vec3) → ℕ → Vec3 → Float → List Vec3 → List ℕ → Bounces
back_of tri fade plane image zero prev weight points tris = made points tris weight
back_of tri fade plane image (suc k) prev weight points tris =
    then_of (λ i w q. back_of tri fade plane image k q (mul binary32 weight w) (q ∷ points) (i ∷ tris)) (bounce_of tri fade (plane k) prev (image (suc k)))

-- the planes of a sequence
abbrev pub plane_on : List Plane → List ℕ → ℕ → Plane
plane_on planes seq k = nth_plane planes (get_or seq k 0)

-- the bounces of a sequence
unfoldable pub bounces_of : (ℕ → Triangle) → Float → List Plane → Vec3 → Vec3 → List ℕ → Bounces
bounces_of tri fade planes source listener seq =
    back_of tri fade (plane_on planes seq) (image_at planes source seq) (length seq) listener one32 [] []
