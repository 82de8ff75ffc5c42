-- The row of a group reads as the plane of the definition (`plane_of_row`).
use mathlib.Core.Path.{◌≡◌, refl, sym, ap, ◌∙◌}
use mathlib.Core.Bool.{Bool, true, false, cond, ◌||◌}
use mathlib.Core.List.{List, [], ◌∷◌, ◌++◌, map, flat_map, foldl}
use Prim.Native.Nat.{ℕ, suc, ◌<◌}
use native.Mathlib.Nat.{not-suc-le-zero}
use native.Mathlib.Omega.{arith}
use lib.Dec.{eqb}
use lib.Ieee.{Float, binary32, add, lt, is_nan}
use lib.ListN.{length, get_or}
use borrow.Author.Tests.{ne_eqb}
use Rattle.float.specs.Literals.{zero32}
use Rattle.float.specs.Compare.{min_of, max_of}
use Rattle.order.proofs.Positions.{get_or_map_up_to}
use Rattle.vector.specs.declared.Vec3.{Vec3}
use Rattle.vector.specs.Vector.{normalize3_of}
use Rattle.geometry.specs.declared.Aabb.{Aabb}
use Rattle.geometry.specs.declared.Triangle.{Triangle}
use Rattle.geometry.specs.Aabb.{low_of, high_of, union_of}
use Rattle.order.specs.Sort.{sort_by, Below}
use Rattle.order.specs.Runs.{any_by, head_or, up_to}
use Rattle.order.proofs.Laws.{below_head, below_tail, fold_same}
use Rattle.columns.specs.Columns.{triangle_at_of}
use Rattle.planes_patches.specs.Lists.{filter_by}
use Rattle.planes_patches.specs.Triangles.{nth_triangle, triangles_in}
use Rattle.planes_patches.specs.Normal.{canonical_of}
use Rattle.planes_patches.specs.Patch.{Patch, patch_at, no_patch}
use Rattle.planes_patches.specs.Rows.{none_of, row_in, tris_in, patch_in, patches_in}
use Rattle.planes_patches.proofs.Filling.{triangle_in}
use Rattle.planes_links.specs.Words.{has, itself}
use Rattle.planes_links.proofs.Filters.{filter_below}
use Rattle.mirror.specs.Plane.{Plane}
use Rattle.mirror.specs.Rows as mirror
use Rattle.planes_fit.specs.Fit.{alone_of, weighted_of, mean_normal_of, total_area_of, group_box_of, group_tris_of, no_heights, heights_of, mean_offset_of, reach_of, spread_of, fitted_of, plane_of_group}
use Rattle.planes_fit.specs.Rows.{PatchesOnce, no_sums, summed_of, alone_row_of, fitted_row_of, plane_row_of}
use Rattle.planes_fit.specs.declared.Sums.{Sums}
use Rattle.planes_fit.proofs.Members.{sorted_tris}

-- ---- folds

map_same : {A : Type 0} (f g : ℕ → A) (n : ℕ) (is : List ℕ) → Below n is → ((i : ℕ) → i < n → f i ≡ g i) → map f is ≡ map g is
map_same f g n [] h e = refl
map_same f g n (i ∷ is) h e = rw (e i (below_head n i is h), map_same f g n is (below_tail n i is h) e)

flat_map_lem : {A : Type 0} (f : A → List ℕ) (g : ℕ → A) (is : List ℕ) → flat_map f (map g is) ≡ flat_map (λ i. f (g i)) is
unfolding flat_map
flat_map_lem f g [] = refl
flat_map_lem f g (i ∷ is) = ap (λ (l : List ℕ). f (g i) ++ l) (flat_map_lem f g is)

-- ---- the union of a box with itself

cond_same : {A : Type 0} (b : Bool) (x : A) → cond b x x ≡ x
cond_same true x = refl
cond_same false x = refl

min_same : (x : Float) → min_of x x ≡ x
unfolding min_of
min_same x = ap (λ (y : Float). cond (is_nan x) x y) (cond_same (lt x x) x) ∙ cond_same (is_nan x) x

max_same : (x : Float) → max_of x x ≡ x
unfolding max_of
max_same x = ap (λ (y : Float). cond (is_nan x) x y) (cond_same (lt x x) x) ∙ cond_same (is_nan x) x

union_same : (b : Aabb) → union_of b b ≡ b
unfolding union_of low_of high_of
union_same b = rw (min_same b.min.x, min_same b.min.y, min_same b.min.z, max_same b.max.x, max_same b.max.y, max_same b.max.z)

-- ---- the sums of a group

module _ (rows : List Float) (of : List ℕ) (m : ℕ) (seed : Vec3) where
  sum_is : (s : Sums) (g : List ℕ) →
      (foldl (λ r q. summed_of seed r (row_in rows q)) s g).sum ≡ foldl (λ r p. weighted_of seed r p.normal p.area) s.sum (map (patch_in rows of m) g)
  unfolding summed_of row_in patch_in
  sum_is s [] = refl
  sum_is s (q ∷ g) = sum_is (summed_of seed s (row_in rows q)) g

  area_is : (s : Sums) (g : List ℕ) → (foldl (λ r q. summed_of seed r (row_in rows q)) s g).area ≡ foldl (λ a p. add binary32 a p.area) s.area (map (patch_in rows of m) g)
  unfolding summed_of row_in patch_in
  area_is s [] = refl
  area_is s (q ∷ g) = area_is (summed_of seed s (row_in rows q)) g

  box_is : (s : Sums) (g : List ℕ) → (foldl (λ r q. summed_of seed r (row_in rows q)) s g).aabb ≡ foldl (λ b p. union_of b p.box) s.aabb (map (patch_in rows of m) g)
  unfolding summed_of row_in patch_in
  box_is s [] = refl
  box_is s (q ∷ g) = box_is (summed_of seed s (row_in rows q)) g

-- ---- one plane

-- a plane with its parts
abbrev fitted_with : Vec3 → Float → Float → Aabb → List ℕ → Float → Plane
fitted_with n d a b is s = record { normal = n; offset = d; area = a; box = b; tris = is; border = []; fitted = true; spread = s }

module _ (area : List Float) (handles : List ℕ) (n m : ℕ) (rows : List Float) (of : List ℕ) (np : ℕ) where
  abbrev tri : ℕ → Triangle
  tri = triangle_at_of area handles n

  abbrev ts : List Triangle
  ts = triangles_in area handles n m

  patch_in_lem : (p : ℕ) → p < np → patch_at (patches_in rows of m np) p ≡ patch_in rows of m p
  unfolding patch_at patches_in
  patch_in_lem p h = get_or_map_up_to (patch_in rows of m) np p no_patch h

  offset_same : (v : Vec3) (is : List ℕ) → Below m is → mean_offset_of tri v is ≡ mean_offset_of (nth_triangle ts) v is
  unfolding mean_offset_of
  offset_same v is b =
      let same : foldl (λ s i. heights_of v s (tri i)) no_heights is ≡ foldl (λ s i. heights_of v s (nth_triangle ts i)) no_heights is =
      fold_same _ _ m no_heights is b (λ s i h. ap (heights_of v s) (sym (triangle_in area handles n m i h))) in
      rw same

  spread_same : (v : Vec3) (d : Float) (is : List ℕ) → Below m is → spread_of tri v d is ≡ spread_of (nth_triangle ts) v d is
  unfolding spread_of
  spread_same v d is b = fold_same _ _ m zero32 is b (λ s i h. ap (reach_of v d s) (sym (triangle_in area handles n m i h)))

  abbrev sums : ℕ → List ℕ → Sums
  sums q g = foldl (λ s p. summed_of (row_in rows q).normal s (row_in rows p)) (no_sums (row_in rows q).aabb) g

  normal_is : (q : ℕ) (g : List ℕ) → canonical_of (normalize3_of (sums q (q ∷ g)).sum) ≡ mean_normal_of (map (patch_in rows of m) (q ∷ g))
  unfolding mean_normal_of head_or row_in patch_in
  normal_is q g = ap (λ (v : Vec3). canonical_of (normalize3_of v)) (sum_is rows of m (row_in rows q).normal (no_sums (row_in rows q).aabb) (q ∷ g))

  total_is : (q : ℕ) (g : List ℕ) → (sums q (q ∷ g)).area ≡ total_area_of (map (patch_in rows of m) (q ∷ g))
  unfolding total_area_of
  total_is q g = area_is rows of m (row_in rows q).normal (no_sums (row_in rows q).aabb) (q ∷ g)

  union_is : (q : ℕ) (g : List ℕ) → (sums q (q ∷ g)).aabb ≡ group_box_of (map (patch_in rows of m) (q ∷ g))
  unfolding group_box_of row_in patch_in
  union_is q g =
      box_is rows of m (row_in rows q).normal (no_sums (row_in rows q).aabb) (q ∷ g)
      ∙ ap (λ (b : Aabb). foldl (λ b p. union_of b p.box) b (map (patch_in rows of m) g)) (union_same (patch_in rows of m q).box)

  fitted_is : (q : ℕ) (g is : List ℕ) (first : ℕ) → Below m is → is ≡ group_tris_of (map (patch_in rows of m) (q ∷ g)) →
      mirror.row_plane (fitted_row_of tri (sums q (q ∷ g)) is first) is [] ≡ fitted_of ts (map (patch_in rows of m) (q ∷ g))
  unfolding fitted_row_of fitted_of
  fitted_is q g is first b e =
      let ps = map (patch_in rows of m) (q ∷ g) in
      let v = canonical_of (normalize3_of (sums q (q ∷ g)).sum) in
      let u = mean_normal_of ps in
      let d = mean_offset_of tri v is in
      let normal : v ≡ u = normal_is q g in
      let offset : d ≡ mean_offset_of (nth_triangle ts) u (group_tris_of ps) =
      offset_same v is b ∙ ap (λ (w : Vec3). mean_offset_of (nth_triangle ts) w is) normal ∙ ap (mean_offset_of (nth_triangle ts) u) e in
      let spread : spread_of tri v d is ≡ spread_of (nth_triangle ts) u (mean_offset_of (nth_triangle ts) u (group_tris_of ps)) (group_tris_of ps) =
      spread_same v d is b ∙ ap (λ (w : Vec3). spread_of (nth_triangle ts) w d is) normal ∙ ap (λ (w : Float). spread_of (nth_triangle ts) u w is) offset
      ∙ ap (spread_of (nth_triangle ts) u (mean_offset_of (nth_triangle ts) u (group_tris_of ps))) e in
      go _ _ normal _ _ offset _ _ (total_is q g) _ _ (union_is q g) _ _ e _ _ spread
    where
      go :
          (n n' : Vec3) → n ≡ n' → (d d' : Float) → d ≡ d' → (a a' : Float) → a ≡ a' → (b b' : Aabb) → b ≡ b' → (is is' : List ℕ) → is ≡ is' → (s s' : Float) → s ≡ s' →
          fitted_with n d a b is s ≡ fitted_with n' d' a' b' is' s'
      go n n' en d d' ed a a' ea b b' eb is is' ei s s' es = rw (en, ed, ea, eb, ei, es)

  alone_tris : (q : ℕ) → filter_by (λ t. has (get_or of t none_of) (q ∷ [])) (up_to m) ≡ tris_in of m q
  unfolding tris_in any_by
  alone_tris q = filter_below (λ t. has (get_or of t none_of) (q ∷ [])) (λ t. eqb (get_or of t none_of) q) m (λ t h. or_none (eqb (get_or of t none_of) q))
    where
      or_none : (b : Bool) → b || false ≡ b
      or_none true = refl
      or_none false = refl

  tris_are : (g is : List ℕ) → is ≡ sort_by itself (flat_map (tris_in of m) g) → is ≡ group_tris_of (map (patch_in rows of m) g)
  unfolding group_tris_of patch_in
  tris_are g is e = e ∙ ap (sort_by itself) (sym (flat_map_lem (λ (p : Patch). p.tris) (patch_in rows of m) g))

  -- THE ROW of a group is the plane of the definition
  pub plane_of_row : (g is : List ℕ) (first : ℕ) → 0 < length g → Below np g → PatchesOnce g → Below m is → is ≡ sort_by itself (flat_map (tris_in of m) g) →
      mirror.row_plane (plane_row_of tri rows g is first) is [] ≡ plane_of_group ts (patches_in rows of m np) g
  unfolding plane_row_of plane_of_group head_or alone_row_of alone_of row_in patch_in
  plane_of_row [] is first h b o i e = absurd (not-suc-le-zero h)
  plane_of_row (q ∷ []) is first h b o i e =
      let alone : is ≡ tris_in of m q = e ∙ sorted_tris of m (q ∷ []) o ∙ alone_tris q in
      rw (patch_in_lem q (below_head np q [] b), alone)
  plane_of_row (q ∷ r ∷ g) is first h b o i e =
      let same : map (patch_at (patches_in rows of m np)) (q ∷ r ∷ g) ≡ map (patch_in rows of m) (q ∷ r ∷ g) = map_same _ _ np (q ∷ r ∷ g) b patch_in_lem in
      rw (ne_eqb (suc (suc (length g))) 1 (λ z. absurd (omega arith)), same) (fitted_is q (r ∷ g) is first i (tris_are (q ∷ r ∷ g) is e))
