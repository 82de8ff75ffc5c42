-- Step 3 as a whole: the largest triangles, the flags, and the rows and numbers of the open patches give the definition's (`opened_is`).
use mathlib.Core.Path.{◌≡◌, sym, ap, ◌∙◌}
use mathlib.Core.Bool.{Bool, true, not}
use mathlib.Core.List.{List, [], ◌∷◌}
use Prim.Native.Nat.{ℕ, ◌+◌, ◌<◌, ◌≤◌}
use native.Mathlib.Omega.{arith}
use lib.Dec.{eqb}
use lib.Ieee.{Float, lt}
use lib.ListN.{length, get_or, set}
use lib.Seq.{get_or-set_same, get_or-set_other}
use Rattle.float.specs.Literals.{zero32}
use Rattle.float.proofs.Numbers.{by_order}
use Rattle.order.proofs.Positions.{Under, under_up_to}
use Rattle.vector.specs.declared.Ray.{Ray}
use Rattle.geometry.specs.declared.Triangle.{Triangle}
use Rattle.columns.specs.Columns.{triangle_at_of}
use Rattle.tree_build.specs.Tree.{Tree}
use Rattle.order.specs.Runs.{up_to}
use Rattle.order.proofs.Stable.{by-eq}
use Rattle.planes_patches.specs.Triangles.{nth_triangle, triangles_in}
use Rattle.planes_patches.specs.Rows.{none_of, row_in, tris_in, patch_in, patches_in, Numbered}
use Rattle.planes_patches.proofs.Lists.{under_filter}
use Rattle.planes_patches.proofs.Filling.{triangle_in}
use Rattle.planes_buried.specs.Buried.{largest_of, is_buried, open_of}
use Rattle.planes_buried.specs.Probe.{probe_of, lies_between, TreeHeld}
use Rattle.planes_buried.specs.Passes.{best_at, or_zero, is_open, open_to, number_in, renumbered_of}
use Rattle.planes_buried.proofs.Best.{best_to, largest_is, largest_low}
use Rattle.planes_buried.proofs.Closing.{closed_is}

-- ---- the loop of `mark_open`

-- the flag of patch p tells whether a triangle is between others
abbrev pub Tells : List Float → List ℕ → List ℕ → List Float → List ℕ → Triangle → Float → ℕ → Type 0
Tells padded nodes perm leaves handles t reach flag =
    (tri : ℕ → Triangle) (k : Tree) → TreeHeld tri k padded nodes perm leaves handles → eqb flag 0 ≡ lies_between (probe_of tri k) t reach

pub tells_more : (P : ℕ → ℕ → Type 0) (flags : List ℕ) (p v : ℕ) → p < length flags → ((q : ℕ) → q < p → P q (get_or flags q 0)) → P p v → (q : ℕ) → q < p + 1 → P q (get_or (set flags p v) q 0)
tells_more P flags p v h f e q l =
    by-eq q p (λ s. rw (s, get_or-set_same flags p v 0 h) e)
    (λ d. rw (get_or-set_other flags p q v 0 d) (f q (by_order p q (λ w. absurd (d (omega arith))) (λ w. w))))

-- ---- the largest triangle

wider : (m k : ℕ) (xs : List ℕ) → m ≤ k → Under m xs → Under k xs
unfolding Under
wider m k [] h u = tt
wider m k (x ∷ xs) h u = (omega (arith, u.0), wider m k xs h u.1)

module _ (area : List Float) (handles : List ℕ) (n m : ℕ) (of : List ℕ) (np : ℕ) (areas : List Float) (largest : List ℕ) (few : m ≤ none_of)
    (best : (p : ℕ) → p < np → best_at areas largest p ≡ best_to (triangles_in area handles n m) of m p) where
  abbrev ts : List Triangle
  ts = triangles_in area handles n m

  under_tris : (k p : ℕ) → m ≤ k → Under k (tris_in of m p)
  unfolding tris_in
  under_tris k p h = under_filter k (λ i. eqb (get_or of i none_of) p) (up_to m) (wider m k (up_to m) h (under_up_to m))

  best_at_lem : (p : ℕ) → p < np → get_or largest p 0 ≡ (best_to ts of m p).1
  unfolding best_at
  best_at_lem p h = ap (λ (b : Float × ℕ). b.1) (best p h)

  pub largest_at : (rows : List Float) (p : ℕ) → p < np → or_zero (get_or largest p 0) ≡ largest_of ts (patch_in rows of m p)
  unfolding largest_of patch_in
  largest_at rows p h = ap or_zero (best_at_lem p h) ∙ largest_is ts (tris_in of m p) (under_tris none_of p few)

  pub largest_below : (p : ℕ) → p < np → np ≤ m → or_zero (get_or largest p 0) < m
  largest_below p h l =
      rw (best_at_lem p h, largest_is ts (tris_in of m p) (under_tris none_of p few)) (largest_low ts m (tris_in of m p) (under_tris m p (omega arith)) (omega arith))

  -- the flags tell which patches are buried
  buried_is : (probe : Ray → Bool) (reach : Float) (rows : List Float) (flags : List ℕ) → np ≤ m
      → ((p : ℕ) → p < np → eqb (get_or flags p 0) 0 ≡ lies_between probe (triangle_at_of area handles n (or_zero (get_or largest p 0))) reach)
      → (p : ℕ) → p < np → is_open flags p ≡ not (is_buried probe ts reach (patch_in rows of m p))
  unfolding is_open is_buried lies_between
  buried_is probe reach rows flags l e p h =
      ap not (e p h ∙ ap (λ (t : Triangle). lies_between probe t reach)
      (sym (triangle_in area handles n m (or_zero (get_or largest p 0)) (largest_below p h l)) ∙ ap (nth_triangle ts) (largest_at rows p h)))

  pub opened_is : (probe : Ray → Bool) (reach : Float) (rows rows' : List Float) (of' flags numbers : List ℕ) (r : ℕ) → np ≤ m → lt zero32 reach ≡ true
      → ((p : ℕ) → p < np → eqb (get_or flags p 0) 0 ≡ lies_between probe (triangle_at_of area handles n (or_zero (get_or largest p 0))) reach)
      → r ≡ length (open_to flags np)
      → ((p : ℕ) → p < np → get_or numbers p 0 ≡ number_in flags p)
      → ((q : ℕ) → q < r → row_in rows' q ≡ row_in rows (get_or (open_to flags np) q 0))
      → Numbered of m np
      → ((i : ℕ) → i < m → get_or of' i none_of ≡ renumbered_of numbers (get_or of i none_of))
      → patches_in rows' of' m r ≡ open_of probe ts reach (patches_in rows of m np)
  unfolding open_of
  opened_is probe reach rows rows' of' flags numbers r l g e er named moved old new =
      let far : np ≤ none_of = omega arith in
      let here : (q : ℕ) → q < length (open_to flags np) → row_in rows' q ≡ row_in rows (get_or (open_to flags np) q 0) = λ q h. moved q (rw er h) in
      rw (er, g)
      (closed_is flags np far numbers named m of of' old new rows rows' here (λ p. not (is_buried probe ts reach p)) (buried_is probe reach rows flags l e))
