-- Step 2, coplanar patches: each triangle that is kept joins the first patch of its plane in the 27 cells around its normal, or starts one.
use Rattle.std.specs.Prelude.{ℕ, ◌+◌, ◌-◌, Bool, cond, ◌&&◌, ltb, length, set, Float, List, [], ◌∷◌, ◌++◌, map}
use mathlib.Core.List.{flat_map, foldl}
use Rattle.std.specs.Float.{binary32}
use Rattle.std.specs.Float.Ieee.{add, sub, lt, of_bits}
use Rattle.float.specs.Compare.{abs_of}
use Rattle.vector.specs.declared.Vec3.{Vec3}
use Rattle.vector.specs.Vector.{dot3_of}
use Rattle.geometry.specs.declared.Triangle.{Triangle}
use Rattle.geometry.specs.Aabb.{union_of}
use Rattle.geometry.specs.Triangle.{triangle_area_of}
use Rattle.order.specs.Runs.{first_by, up_to}
use Rattle.planes_faces.specs.Key.{Key, same_key, key_by}
use Rattle.planes_faces.specs.Faces.{face_of, is_first}
use Rattle.planes_patches.specs.Lists.{filter_by}
use Rattle.planes_patches.specs.Triangles.{nth_triangle, box_of}
use Rattle.planes_patches.specs.Normal.{canonical_of, offset_of}
use Rattle.planes_patches.specs.Patch.{Patch, patch_at}

-- `PLANE_NORMAL_COS`, 0.99998
abbrev pub plane_normal_cos : Float
plane_normal_cos = of_bits binary32 0x3f7f_feb0

-- `PLANE_OFFSET_TOL`, 2e-3
abbrev pub plane_offset_tol : Float
plane_offset_tol = of_bits binary32 0x3b03_126f

-- 50.0: cells of 1/50 of a normal
abbrev pub cells_per_unit : Float
cells_per_unit = of_bits binary32 0x4248_0000

-- `keep`: the triangles that duplicate no earlier one, in order
unfoldable pub kept_of : List Triangle → List ℕ
kept_of ts = let fs = map face_of ts in filter_by (is_first fs) (up_to (length ts))

-- `cell`
unfoldable pub cell_of : Vec3 → Key
cell_of n = key_by cells_per_unit n

-- the three cells from -1 to 1 on an axis
abbrev pub beside_of : ℕ → List ℕ
beside_of c = (c - 1) ∷ c ∷ (c + 1) ∷ []

-- the 27 cells around c, in the order of the loops: x slowest, z fastest
unfoldable pub around_of : Key → List Key
around_of c =
    flat_map (λ x. flat_map (λ y. map (λ z. record { x = x; y = y; z = z }) (beside_of c.z)) (beside_of c.y)) (beside_of c.x)

-- `grid.get(cell)`: the patches of a cell, in order of making
unfoldable pub patches_in_cell : List Patch → Key → List ℕ
patches_in_cell ps c = filter_by (λ i. same_key (patch_at ps i).cell c) (up_to (length ps))

-- whether a patch lies in the plane of a normal and an offset
unfoldable pub lies_in_plane : Patch → Vec3 → Float → Bool
lies_in_plane p n d = lt plane_normal_cos (dot3_of p.normal n) && lt (abs_of (sub binary32 p.offset d)) plane_offset_tol

-- `found`: the first match, else the number of patches
unfoldable pub found_of : List Patch → Vec3 → Float → ℕ
found_of ps n d = first_by (λ i. lies_in_plane (patch_at ps i) n d) (length ps) (flat_map (patches_in_cell ps) (around_of (cell_of n)))

-- `None`: a patch of triangle i alone
unfoldable pub lone_patch : Triangle → ℕ → Patch
lone_patch t i =
    let n = canonical_of t.normal in
    record { normal = n; offset = offset_of t; area = triangle_area_of t; box = box_of t; tris = i ∷ []; cell = cell_of n }

-- `Some(pi)`: a patch with triangle i more
unfoldable pub joined_of : Patch → Triangle → ℕ → Patch
joined_of p t i =
    record { normal = p.normal; offset = p.offset; area = add binary32 p.area (triangle_area_of t); box = union_of p.box (box_of t); tris = p.tris ++ (i ∷ []); cell = p.cell }

-- one turn of the loop
unfoldable pub placed_of : List Triangle → List Patch → ℕ → List Patch
placed_of ts ps i =
    let t = nth_triangle ts i in
    let found = found_of ps (canonical_of t.normal) (offset_of t) in
    cond (ltb found (length ps)) (set ps found (joined_of (patch_at ps found) t i)) (ps ++ (lone_patch t i ∷ []))

-- steps 1 and 2
unfoldable pub patches_of : List Triangle → List Patch
patches_of ts = foldl (placed_of ts) [] (kept_of ts)
