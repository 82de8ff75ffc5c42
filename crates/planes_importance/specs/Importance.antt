-- Step 5, ranking by importance, which is area with a mild weight for being central: the best `max_reflection_planes` stay.
use Rattle.std.specs.Prelude.{ℕ, true, false, length, take, Float, List, map}
use mathlib.Core.List.{foldl}
use Rattle.std.specs.Float.{inf, binary32}
use Rattle.std.specs.Float.Ieee.{add, mul, div, of_bits}
use Rattle.float.specs.Literals.{zero32, one32}
use Rattle.float.specs.Compare.{max_of}
use Rattle.vector.specs.declared.Vec3.{Vec3}
use Rattle.vector.specs.Vector.{vec, add3_of, scale3_of, distance3_of, tiny}
use Rattle.geometry.specs.declared.Aabb.{Aabb}
use Rattle.geometry.specs.declared.Triangle.{Triangle}
use Rattle.geometry.specs.Aabb.{box, grow_of}
use Rattle.geometry.specs.Triangle.{half, triangle_area_of, centroid_of}
use Rattle.order.specs.Sort.{sort_by, key_of}
use Rattle.order.specs.Runs.{head_or, up_to}
use Rattle.planes_patches.specs.Triangles.{nth_triangle, corners_of}
use Rattle.mirror.specs.Plane.{Plane, nth_plane}
use Rattle.mirror.specs.declared.PlaneRow.{PlaneRow}
use Rattle.mirror.specs.Rows.{tris_of}
use Rattle.planes_groups.specs.Groups.{key_for_falling}
use Rattle.planes_importance.specs.declared.Moments.{Moments}

-- 1e-3
abbrev pub least_half_diag : Float
least_half_diag = of_bits binary32 0x3a83_126f

abbrev pub splat : Float → Vec3
splat v = vec v v v

-- `lo` and `hi`: the box of all triangles, duplicates too
unfoldable pub grown_by_of : Aabb → Triangle → Aabb
grown_by_of b t = foldl grow_of b (corners_of t)

abbrev pub no_box_of : Aabb
no_box_of = box (splat (inf false)) (splat (inf true))

unfoldable pub scene_box_of : List Triangle → Aabb
scene_box_of ts = foldl grown_by_of no_box_of ts

-- `centre`
unfoldable pub centre_of : Aabb → Vec3
centre_of b = scale3_of (add3_of b.min b.max) half

-- `half_diag`
unfoldable pub half_diag_of : Aabb → Float
half_diag_of b = max_of (mul binary32 half (distance3_of b.min b.max)) least_half_diag

-- `c` and `w`: the sum of the areas times the centroids, and the sum of the areas
abbrev pub no_moments : Moments
no_moments = record { sum = splat zero32; weight = zero32 }

-- with one triangle more
unfoldable pub moment_of : Moments → Triangle → Moments
moment_of s t =
    let a = triangle_area_of t in
    let c = centroid_of t in
    record { sum = add3_of s.sum (vec (mul binary32 a c.x) (mul binary32 a c.y) (mul binary32 a c.z)); weight = add binary32 s.weight a }

-- the centre of the area
unfoldable pub mean_of : Moments → Vec3
mean_of s =
    let w = max_of s.weight tiny in
    vec (div binary32 s.sum.x w) (div binary32 s.sum.y w) (div binary32 s.sum.z w)

unfoldable pub area_centre_of : List Triangle → List ℕ → Vec3
area_centre_of ts is = mean_of (foldl (λ s i. moment_of s (nth_triangle ts i)) no_moments is)

-- `p.area / (1.0 + d * d)`, with d the distance of the area's centre c from the scene's in half diagonals
unfoldable pub weighed_of : Aabb → Float → Vec3 → Float
weighed_of b area c =
    let d = div binary32 (distance3_of c (centre_of b)) (half_diag_of b) in
    div binary32 area (add binary32 one32 (mul binary32 d d))

-- `importance`
unfoldable pub importance_of : List Triangle → Aabb → Plane → Float
importance_of ts b p = weighed_of b p.area (area_centre_of ts p.tris)

-- a key that has the more important plane first, and of equal ones that with the lower first triangle
unfoldable pub key_of_plane : List Triangle → Aabb → Plane → ℕ
key_of_plane ts b p = key_for_falling (importance_of ts b p) (head_or 0 p.tris)

-- the numbers of the planes, sorted by it
unfoldable pub ranking_of : List Triangle → List Plane → List ℕ
ranking_of ts ps = let keys = map (key_of_plane ts (scene_box_of ts)) ps in sort_by (key_of keys) (up_to (length ps))

-- `ranked`: the first `most` of them
unfoldable pub ranked_of : List Triangle → ℕ → List Plane → List Plane
ranked_of ts most ps = map (nth_plane ps) (take most (ranking_of ts ps))

-- ---- the same over triangles by number and the rows of planes, as the code has them

unfoldable pub key_in : (ℕ → Triangle) → Aabb → Float → List ℕ → ℕ
key_in tri b area is = key_for_falling (weighed_of b area (mean_of (foldl (λ s i. moment_of s (tri i)) no_moments is))) (head_or 0 is)

unfoldable pub row_key_in : (ℕ → Triangle) → Aabb → PlaneRow → List ℕ → ℕ
row_key_in tri b row members = key_in tri b row.area (tris_of row members)
