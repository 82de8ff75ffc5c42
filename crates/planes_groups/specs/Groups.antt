-- Step 4, merging: groups of adjacent patches that grow breadth first from seeds, the largest patch first.
use Rattle.std.specs.Prelude.{ℕ, zero, suc, ◌+◌, ◌-◌, ◌*◌, Bool, true, false, cond, not, ◌&&◌, ltb, eqb, length, get_or, Float, List, [], ◌∷◌, ◌++◌, map}
use mathlib.Core.List.{flat_map}
use Rattle.std.specs.Float.{binary32}
use Rattle.std.specs.Float.Ieee.{sub, lt, le, is_nan}
use Rattle.float.specs.Literals.{zero32}
use Rattle.float.specs.Compare.{abs_of}
use Rattle.float.specs.Key.{key_of_float}
use Rattle.order.specs.Sort.{sort_by, key_of}
use Rattle.order.specs.Runs.{any_by, head_or, up_to}
use Rattle.vector.specs.declared.Vec3.{Vec3}
use Rattle.vector.specs.Vector.{dot3_of}
use Rattle.geometry.specs.declared.Triangle.{Triangle}
use Rattle.planes_faces.specs.Key.{Key, same_key, vertex_key}
use Rattle.planes_patches.specs.Lists.{filter_by, all_by}
use Rattle.planes_patches.specs.Triangles.{nth_triangle, corners_of}
use Rattle.planes_patches.specs.Patch.{Patch, patch_at}
use Rattle.planes_links.specs.Links.{is_linked}
use Rattle.planes_groups.specs.Settings.{Settings}
use Rattle.planes_patches.specs.Patches.{plane_normal_cos}

-- The place of x among floats, NaN lowest: for numbers x and y, x < y where the place of x is below that of y, and both zeros have one place.
unfoldable pub rank_of : Float → ℕ
rank_of x = cond (is_nan x) 0 (key_of_float x)

-- a key that has larger floats first, and of equal ones the lower number
unfoldable pub key_for_falling : Float → ℕ → ℕ
key_for_falling x i = (4294967295 - rank_of x) * 4294967296 + i

-- `order`: the patches as seeds, the largest first, and of equal ones that with the lower first triangle
unfoldable pub seeds_of : List Patch → List ℕ
seeds_of ps = let keys = map (λ (p : Patch). key_for_falling p.area (head_or 0 p.tris)) ps in sort_by (key_of keys) (up_to (length ps))

-- ---- adjacency

-- the vertices of a patch
unfoldable pub vertices_of : List Triangle → Patch → List Key
vertices_of ts p = flat_map (λ i. map vertex_key (corners_of (nth_triangle ts i))) p.tris

-- a run of `verts`: the patches at a vertex, each once, rising
unfoldable pub run_at : List (List Key) → Key → List ℕ
run_at vs k = filter_by (λ i. any_by (same_key k) (get_or vs i [])) (up_to (length vs))

-- `adj`: p and q share a vertex that links them
unfoldable pub is_adjacent : List (List ℕ) → ℕ → ℕ → Bool
is_adjacent runs p q = any_by (λ run. is_linked run p q) runs

-- a run for each vertex of each patch
unfoldable pub runs_of : List Triangle → List Patch → List (List ℕ)
runs_of ts ps = let vs = map (vertices_of ts) ps in map (run_at vs) (flat_map (λ v. v) vs)

-- ---- growing

-- `c >= merge_cos && c <= PLANE_NORMAL_COS`: a normal inside the cone of another, and not in its plane
abbrev pub is_tilted_from : Float → Vec3 → Vec3 → Bool
is_tilted_from least a b = let c = abs_of (dot3_of a b) in le least c && le c plane_normal_cos

unfoldable pub in_cone : Settings → Patch → Patch → Bool
in_cone s seed q = is_tilted_from s.merge_cos seed.normal q.normal

-- `(dot3(sn, v) - so).abs() <= cfg.plane_merge_offset`: near a plane
abbrev pub lies_near : Vec3 → Float → Float → Vec3 → Bool
lies_near normal offset most v = le (abs_of (sub binary32 (dot3_of normal v) offset)) most

-- `within`: all its vertices near the seed's plane
unfoldable pub lies_within : Settings → List Triangle → Patch → Patch → Bool
lies_within s ts seed q = all_by (λ i. all_by (lies_near seed.normal seed.offset s.merge_offset) (corners_of (nth_triangle ts i))) q.tris

-- whether the group of a seed takes q
unfoldable pub takes : Settings → List Triangle → Patch → Patch → Bool
takes s ts seed q = in_cone s seed q && lies_within s ts seed q

-- The group from a queue: each patch in turn lets in those of the free patches that it is adjacent to and that fit, rising.
-- Each turn takes one from the queue, so that as many turns as there are patches do. The group, and what is free after it.
unfoldable pub grown_of : ℕ → (ℕ → ℕ → Bool) → (ℕ → Bool) → List ℕ → List ℕ → List ℕ × List ℕ
grown_of zero adj fit queue free = (queue, free)
grown_of (suc n) adj fit [] free = ([], free)
grown_of (suc n) adj fit (p ∷ queue) free =
    let g = grown_of n adj fit (queue ++ filter_by (λ q. adj p q && fit q) free) (filter_by (λ q. not (adj p q && fit q)) free) in
    (p ∷ g.0, g.1)

-- one group after another: a seed that is still free starts one
unfoldable pub groups_from : ℕ → (ℕ → ℕ → Bool) → (ℕ → ℕ → Bool) → List ℕ → List ℕ → List (List ℕ)
groups_from n adj fit [] free = []
groups_from n adj fit (s ∷ seeds) free =
    elim (any_by (eqb s) free) [
      | true ↦ let g = grown_of n adj (fit s) (s ∷ []) (filter_by (λ q. not (eqb s q)) free) in g.0 ∷ groups_from n adj fit seeds g.1
      | false ↦ groups_from n adj fit seeds free
    ]

-- `groups`
unfoldable pub groups_of : Settings → List Triangle → List Patch → List (List ℕ)
groups_of s ts ps =
    let runs = runs_of ts ps in
    cond (s.merge_on && lt zero32 s.merge_offset && ltb 1 (length ps))
    (groups_from (length ps) (is_adjacent runs) (λ a b. takes s ts (patch_at ps a) (patch_at ps b)) (seeds_of ps) (up_to (length ps)))
    (map (λ p. p ∷ []) (seeds_of ps))
