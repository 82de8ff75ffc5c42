-- The tree depends on the boxes and centroids of its own triangles only (`build_agree`), and its trace on its own triangles (`trace_agree`):
-- functions that agree below n give the same of lists below n. By induction, each step by `rw` with the parts' laws.
use mathlib.Core.Path.{◌≡◌, refl, ap, ◌∙◌}
use mathlib.Core.Bool.{cond}
use mathlib.Core.List.{List, [], ◌∷◌, ◌++◌, foldl}
use Prim.Native.Nat.{ℕ, zero, suc, ◌-◌, ◌<◌}
use lib.Ieee.{Float, lt}
use lib.Dec.{leb}
use lib.ListN.{length, take, drop}
use Rattle.order.specs.Sort.{Below}
use Rattle.order.proofs.Laws.{below_none, below_cons, below_head, below_tail, below_take, below_drop}
use Rattle.vector.specs.declared.Vec3.{Vec3}
use Rattle.vector.specs.Vector.{axis_of}
use Rattle.geometry.specs.declared.Aabb.{Aabb}
use Rattle.geometry.specs.Aabb.{new_empty_of, union_of, from_point_of}
use Rattle.tree_split.specs.declared.BestSplit.{BestSplit}
use Rattle.tree_split.specs.Split.{Swept, swept, Divided, insert_on, sort_on, bounds_of, suffix_of, try_of, sweep_of, search_axis_of, search_axes_of, span_of, best_split, least_span, last_sort, split_of}
use Rattle.tree_build.specs.Tree.{Tree, leaf, node, leaf_of, branch_of, leaf_threshold, build_sah_of}
use Rattle.tree_build.specs.Tree.{box_of, leaves_of}
use Rattle.geometry.specs.declared.Triangle.{Triangle}
use Rattle.vector.specs.declared.Ray.{Ray}
use Rattle.tree_trace.specs.declared.Closest.{Closest}
use Rattle.tree_trace.specs.Leaf.{visit_of, visit_all_of}
use Rattle.std.specs.Prelude.{is_some}
use Rattle.tree_trace.specs.Trace.{Test, trace_tree}
use Rattle.tree_trace.proofs.Laws.{turn_same}
use Rattle.bvh.proofs.Leaves.{perm_below, sort_on_perm, axis_perm, axes_perm, split_perm}

-- ---- the sort
module _ (n : ℕ) (f g : ℕ → Float) (same : (i : ℕ) → i < n → f i ≡ g i) where
  insert_agree : (x : ℕ) (ys : List ℕ) → x < n → Below n ys → insert_on f x ys ≡ insert_on g x ys
  unfolding insert_on
  insert_agree x [] hx h = refl
  insert_agree x (y ∷ ys) hx h = rw (same x hx, same y (below_head n y ys h), insert_agree x ys hx (below_tail n y ys h))

  pub sort_agree : (xs : List ℕ) → Below n xs → sort_on f xs ≡ sort_on g xs
  unfolding sort_on
  sort_agree [] h = refl
  sort_agree (x ∷ xs) h =
      let t = below_tail n x xs h in
      insert_agree x (sort_on f xs) (below_head n x xs h) (perm_below n (sort_on_perm f xs) t) ∙ ap (insert_on g x) (sort_agree xs t)

-- ---- boxes
module _ (n : ℕ) (b c : ℕ → Aabb) (same : (i : ℕ) → i < n → b i ≡ c i) where
  fold_agree : (xs : List ℕ) (acc : Aabb) → Below n xs → foldl (λ (a : Aabb) (i : ℕ). union_of a (b i)) acc xs ≡ foldl (λ (a : Aabb) (i : ℕ). union_of a (c i)) acc xs
  fold_agree [] acc h = refl
  fold_agree (x ∷ xs) acc h =
      fold_agree xs (union_of acc (b x)) (below_tail n x xs h)
      ∙ ap (λ (v : Aabb). foldl (λ (a : Aabb) (i : ℕ). union_of a (c i)) (union_of acc v) xs) (same x (below_head n x xs h))

  pub bounds_agree : (xs : List ℕ) → Below n xs → bounds_of b xs ≡ bounds_of c xs
  unfolding bounds_of
  bounds_agree xs h = fold_agree xs new_empty_of h

  suffix_agree : (xs : List ℕ) → Below n xs → suffix_of b xs ≡ suffix_of c xs
  unfolding suffix_of
  suffix_agree [] h = refl
  suffix_agree (x ∷ xs) h = rw (suffix_agree xs (below_tail n x xs h), same x (below_head n x xs h))

  try_agree : (a : ℕ) (xs : List ℕ) (i : ℕ) (s : BestSplit) → Below n xs → try_of b a xs i s ≡ try_of c a xs i s
  unfolding try_of
  try_agree a xs i s h = rw (bounds_agree (take i xs) (below_take n i xs h), suffix_agree (drop i xs) (below_drop n i xs h))

  pub sweep_agree : (a : ℕ) (xs : List ℕ) (k : ℕ) (s : BestSplit) → Below n xs → sweep_of b a xs k s ≡ sweep_of c a xs k s
  unfolding sweep_of
  sweep_agree a xs zero s h = refl
  sweep_agree a xs (suc k) s h = try_agree a xs (suc k) (sweep_of b a xs k s) h ∙ ap (try_of c a xs (suc k)) (sweep_agree a xs k s h)

-- ---- the split and the tree
module _ (n : ℕ) (b c : ℕ → Aabb) (mid nid : ℕ → Vec3) (boxes : (i : ℕ) → i < n → b i ≡ c i) (mids : (i : ℕ) → i < n → mid i ≡ nid i) where
  axis_agree : (a : ℕ) (span : Float) (s : Swept) → Below n s.list → search_axis_of b mid a span s ≡ search_axis_of c nid a span s
  unfolding search_axis_of
  axis_agree a span s h =
      let f : ℕ → Float = λ i. axis_of (mid i) a in
      let g : ℕ → Float = λ i. axis_of (nid i) a in
      let e = sort_agree n f g (λ i l. ap (λ (v : Vec3). axis_of v a) (mids i l)) s.list h in
      let xs = sort_on f s.list in
      ap (λ (r : BestSplit). cond (lt span least_span) s (swept xs r)) (sweep_agree n b c boxes a xs (length xs - 1) s.best (perm_below n (sort_on_perm f s.list) h))
      ∙ ap (λ (ys : List ℕ). cond (lt span least_span) s (swept ys (sweep_of c a ys (length ys - 1) s.best))) e

  span_agree : (a : ℕ) (xs : List ℕ) → Below n xs → span_of mid a xs ≡ span_of nid a xs
  span_agree a xs h = rw (bounds_agree n (λ i. from_point_of (mid i)) (λ i. from_point_of (nid i)) (λ i l. ap from_point_of (mids i l)) xs h)

  step_agree : (a : ℕ) (xs : List ℕ) (s t : Swept) → Below n xs → Below n s.list → s ≡ t → search_axis_of b mid a (span_of mid a xs) s ≡ search_axis_of c nid a (span_of nid a xs) t
  step_agree a xs s t h l e =
      axis_agree a (span_of mid a xs) s l
      ∙ ap (λ (x : Float). search_axis_of c nid a x s) (span_agree a xs h) ∙ ap (search_axis_of c nid a (span_of nid a xs)) e

  pub axes_agree : (xs : List ℕ) → Below n xs → search_axes_of b mid xs ≡ search_axes_of c nid xs
  unfolding search_axes_of
  axes_agree xs h =
      let s0 = swept xs (best_split Rattle.geometry.specs.Aabb.most 0 0) in
      let s1 = search_axis_of b mid 0 (span_of mid 0 xs) s0 in
      let s2 = search_axis_of b mid 1 (span_of mid 1 xs) s1 in
      let h1 = perm_below n (axis_perm b mid 0 (span_of mid 0 xs) s0) h in
      let h2 = perm_below n (axis_perm b mid 1 (span_of mid 1 xs) s1) h1 in
      step_agree 2 xs s2 (search_axis_of c nid 1 (span_of nid 1 xs) (search_axis_of c nid 0 (span_of nid 0 xs) s0)) h h2
      (step_agree 1 xs s1 (search_axis_of c nid 0 (span_of nid 0 xs) s0) h h1 (step_agree 0 xs s0 s0 h h refl))

  last_agree : (s : Swept) → Below n s.list → last_sort mid s ≡ last_sort nid s
  last_agree s h = rw (sort_agree n (λ i. axis_of (mid i) s.best.axis) (λ i. axis_of (nid i) s.best.axis) (λ i l. ap (λ (v : Vec3). axis_of v s.best.axis) (mids i l)) s.list h)

  pub split_agree : (xs : List ℕ) → Below n xs → split_of b mid xs ≡ split_of c nid xs
  unfolding split_of
  split_agree xs h = last_agree (search_axes_of b mid xs) (perm_below n (axes_perm b mid xs) h) ∙ ap (last_sort nid) (axes_agree xs h)

  leaf_agree : (xs : List ℕ) → Below n xs → leaf_of b xs ≡ leaf_of c xs
  leaf_agree xs h = ap (λ (v : Aabb). leaf v xs) (bounds_agree n b c boxes xs h)

  branch_agree : (on op : List ℕ → Tree) (d : Divided) → Below n d.list → ((ys : List ℕ) → Below n ys → on ys ≡ op ys) → branch_of b on d ≡ branch_of c op d
  branch_agree on op d h e =
      rw (leaf_agree d.list h, e (take d.at d.list) (below_take n d.at d.list h), e (drop d.at d.list) (below_drop n d.at d.list h))

  pub build_agree : (d : ℕ) (xs : List ℕ) → Below n xs → build_sah_of b mid d xs ≡ build_sah_of c nid d xs
  unfolding build_sah_of
  build_agree zero xs h = leaf_agree xs h
  build_agree (suc d) xs h =
      let below = perm_below n (split_perm b mid xs) h in
      rw (leaf_agree xs h)
      (ap (λ (t : Tree). cond (leb (length xs) leaf_threshold) (leaf_of c xs) t)
      (branch_agree (build_sah_of b mid d) (build_sah_of c nid d) (split_of b mid xs) below (build_agree d)
      ∙ ap (branch_of c (build_sah_of c nid d)) (split_agree xs h)))

-- ---- the trace

below_front : (n : ℕ) (xs ys : List ℕ) → Below n (xs ++ ys) → Below n xs
below_front n [] ys h = below_none n
below_front n (x ∷ xs) ys h = below_cons n x xs (below_head n x (xs ++ ys) h) (below_front n xs ys (below_tail n x (xs ++ ys) h))

below_back : (n : ℕ) (xs ys : List ℕ) → Below n (xs ++ ys) → Below n ys
below_back n [] ys h = h
below_back n (x ∷ xs) ys h = below_back n xs ys (below_tail n x (xs ++ ys) h)

module _ (n : ℕ) (tri sri : ℕ → Triangle) (same : (i : ℕ) → i < n → tri i ≡ sri i) (ray : Ray) where
  visits_agree : (xs : List ℕ) (best : Closest) → Below n xs → visit_all_of tri ray xs best ≡ visit_all_of sri ray xs best
  unfolding visit_all_of
  visits_agree [] best h = refl
  visits_agree (x ∷ xs) best h =
      visits_agree xs (visit_of (tri x) ray x best) (below_tail n x xs h)
      ∙ ap (λ (t : Triangle). visit_all_of sri ray xs (visit_of t ray x best)) (same x (below_head n x xs h))

  pub trace_agree : (test : Test) (t : Tree) (best : Closest) → Below n (leaves_of t) → trace_tree test tri ray t best ≡ trace_tree test sri ray t best
  unfolding trace_tree leaves_of
  trace_agree test (leaf b xs) best h = ap (λ (c : Closest). cond (is_some (test b ray best.distance)) c best) (visits_agree xs best h)
  trace_agree test (node b l r) best h =
      ap (λ (c : Closest). cond (is_some (test b ray best.distance)) c best)
      (turn_same (test (box_of l) ray best.distance) (test (box_of r) ray best.distance)
      (trace_tree test tri ray l) (trace_tree test tri ray r) (trace_tree test sri ray l) (trace_tree test sri ray r) best
      (λ x. trace_agree test l x (below_front n (leaves_of l) (leaves_of r) h)) (λ x. trace_agree test r x (below_back n (leaves_of l) (leaves_of r) h)))
