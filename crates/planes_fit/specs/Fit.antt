-- A plane for each group: a patch as it is, or the best fit of several.
use Rattle.std.specs.Prelude.{ℕ, true, false, cond, eqb, length, Float, List, [], ◌∷◌, map}
use mathlib.Core.List.{flat_map, foldl}
use Rattle.std.specs.Float.{binary32}
use Rattle.std.specs.Float.Ieee.{add, sub, mul, div, neg, le}
use Rattle.float.specs.Literals.{zero32, one32}
use Rattle.float.specs.Compare.{max_of, abs_of}
use Rattle.vector.specs.declared.Vec3.{Vec3}
use Rattle.vector.specs.Vector.{vec, dot3_of, add3_of, normalize3_of, tiny}
use Rattle.geometry.specs.declared.Aabb.{Aabb}
use Rattle.geometry.specs.declared.Triangle.{Triangle}
use Rattle.geometry.specs.Aabb.{union_of}
use Rattle.geometry.specs.Triangle.{triangle_area_of, centroid_of}
use Rattle.order.specs.Sort.{sort_by}
use Rattle.order.specs.Runs.{head_or}
use Rattle.planes_patches.specs.Triangles.{nth_triangle, corners_of}
use Rattle.planes_patches.specs.Normal.{canonical_of}
use Rattle.planes_patches.specs.Patch.{Patch, patch_at, no_patch}
use Rattle.mirror.specs.Plane.{Plane}
use Rattle.planes_fit.specs.declared.Heights.{Heights}

-- a patch alone
unfoldable pub alone_of : Patch → Plane
alone_of p =
    record { normal = p.normal; offset = p.offset; area = p.area; box = p.box; tris = p.tris; border = []; fitted = false; spread = zero32 }

-- 1 where a normal is on the seed's side, else -1
unfoldable pub side_of : Vec3 → Vec3 → Float
side_of seed n = cond (le zero32 (dot3_of seed n)) one32 (neg one32)

-- `nsum` with one patch more: its normal, turned to the seed's side, times its area
unfoldable pub weighted_of : Vec3 → Vec3 → Vec3 → Float → Vec3
weighted_of seed sum n area =
    let w = mul binary32 (side_of seed n) area in
    add3_of sum (vec (mul binary32 w n.x) (mul binary32 w n.y) (mul binary32 w n.z))

-- `n`: the weighted mean, canonical
unfoldable pub mean_normal_of : List Patch → Vec3
mean_normal_of g = canonical_of (normalize3_of (foldl (λ s p. weighted_of (head_or no_patch g).normal s p.normal p.area) (vec zero32 zero32 zero32) g))

-- `area`
unfoldable pub total_area_of : List Patch → Float
total_area_of g = foldl (λ a p. add binary32 a p.area) zero32 g

-- `aabb`: the union of the boxes
unfoldable pub group_box_of : List Patch → Aabb
group_box_of [] = no_patch.box
group_box_of (p ∷ g) = foldl (λ b q. union_of b q.box) p.box g

-- `tris.sort_unstable()`: the group's triangles, rising
unfoldable pub group_tris_of : List Patch → List ℕ
group_tris_of g = sort_by (λ i. i) (flat_map (λ p. p.tris) g)

-- the heights of no triangle
abbrev pub no_heights : Heights
no_heights = record { sum = zero32; weight = zero32 }

-- with one triangle more: its area times its centroid's height, and `wsum`, its area
unfoldable pub heights_of : Vec3 → Heights → Triangle → Heights
heights_of n s t =
    let a = triangle_area_of t in
    record { sum = add binary32 s.sum (mul binary32 a (dot3_of n (centroid_of t))); weight = add binary32 s.weight a }

-- `offset`: the weighted mean height
unfoldable pub mean_offset_of : (ℕ → Triangle) → Vec3 → List ℕ → Float
mean_offset_of tri n is =
    let s = foldl (λ s i. heights_of n s (tri i)) no_heights is in
    div binary32 s.sum (max_of s.weight tiny)

-- the larger of a distance and those of a triangle's vertices from the plane
unfoldable pub reach_of : Vec3 → Float → Float → Triangle → Float
reach_of n d s t = foldl (λ s v. max_of s (abs_of (sub binary32 (dot3_of n v) d))) s (corners_of t)

-- `spread`: the largest distance of a vertex from the plane
unfoldable pub spread_of : (ℕ → Triangle) → Vec3 → Float → List ℕ → Float
spread_of tri n d is = foldl (λ s i. reach_of n d s (tri i)) zero32 is

-- several patches
unfoldable pub fitted_of : List Triangle → List Patch → Plane
fitted_of ts g =
    let n = mean_normal_of g in
    let is = group_tris_of g in
    let d = mean_offset_of (nth_triangle ts) n is in
    record { normal = n; offset = d; area = total_area_of g; box = group_box_of g; tris = is; border = []; fitted = true; spread = spread_of (nth_triangle ts) n d is }

-- one group's plane
unfoldable pub plane_of_group : List Triangle → List Patch → List ℕ → Plane
plane_of_group ts ps g = cond (eqb (length g) 1) (alone_of (patch_at ps (head_or 0 g))) (fitted_of ts (map (patch_at ps) g))
