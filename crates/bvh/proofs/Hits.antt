-- A trace's hit is a hit of one of its triangles (`hit_is`): by induction on the tree, what is closest is what it was before, or the crossing
-- of a triangle of the leaves.
use mathlib.Core.Path.{◌≡◌, refl, sym, ap, ◌∙◌, subst}
use mathlib.Core.Logic.{◌⊎◌, inl, inr, ⊎_elim}
use mathlib.Core.Bool.{Bool, true, false, cond, ◌||◌}
use mathlib.Core.List.{List, [], ◌∷◌, ◌++◌, foldl}
use Prim.Native.Nat.{ℕ}
use native.Mathlib.Omega.{arith}
use lib.Dec.{eqb}
use lib.Ieee.{Float, lt, le}
use Rattle.vector.specs.declared.Ray.{Ray}
use Rattle.geometry.specs.declared.Triangle.{Triangle}
use Rattle.std.specs.Prelude.{Option, None, Some, is_some}
use Rattle.geometry.specs.Intersect.{Crossing, intersect_max_of}
use Rattle.tree_build.specs.Tree.{Tree, leaf, node, box_of, leaves_of}
use Rattle.tree_trace.specs.declared.Closest.{Closest}
use Rattle.tree_trace.specs.Leaf.{visit_of, visit_all_of}
use Rattle.tree_trace.specs.Trace.{Test, near_first, trace_tree, none}

-- i is one of xs
unfoldable pub Among : ℕ → List ℕ → Type 0
Among i [] = ⊥
Among i (x ∷ xs) = (i ≡ x) ⊎ Among i xs

pub among_left : (i : ℕ) (xs ys : List ℕ) → Among i xs → Among i (xs ++ ys)
unfolding Among
among_left i [] ys h = absurd h
among_left i (x ∷ xs) ys h = ⊎_elim (λ e. inl e) (λ r. inr (among_left i xs ys r)) h

pub among_right : (i : ℕ) (xs ys : List ℕ) → Among i ys → Among i (xs ++ ys)
unfolding Among
among_right i [] ys h = h
among_right i (x ∷ xs) ys h = inr (among_right i xs ys h)

-- the closest is a crossing of one of the triangles xs, within some length of the ray
pub record IsHit (tri : ℕ → Triangle) (ray : Ray) (xs : List ℕ) (c : Closest) : Type 0 where
  pub among : Among c.index xs
  pub within : Float
  pub u : Float
  pub v : Float
  pub crosses : intersect_max_of (tri c.index) ray within ≡ Some (c.distance, u, v)

module _ (tri : ℕ → Triangle) (ray : Ray) where
  -- nothing new, or a hit
  abbrev Kept : List ℕ → Closest → Closest → Type 0
  Kept xs best c = (c ≡ best) ⊎ IsHit tri ray xs c

  hit_wider : (xs ys : List ℕ) (c : Closest) → ((i : ℕ) → Among i xs → Among i ys) → IsHit tri ray xs c → IsHit tri ray ys c
  hit_wider xs ys c f h = record { among = f c.index h.among; within = h.within; u = h.u; v = h.v; crosses = h.crosses }

  kept_then : (xs : List ℕ) (a b c : Closest) → Kept xs a b → Kept xs b c → Kept xs a c
  kept_then xs a b c p q = ⊎_elim (λ e. ⊎_elim (λ d. inl (e ∙ d)) (λ h. inr (subst (IsHit tri ray xs) (sym e) h)) p) (λ h. inr h) q

  kept_wider : (xs ys : List ℕ) (a c : Closest) → ((i : ℕ) → Among i xs → Among i ys) → Kept xs a c → Kept ys a c
  kept_wider xs ys a c f p = ⊎_elim (λ e. inl e) (λ h. inr (hit_wider xs ys c f h)) p

  visit_kept : (i : ℕ) (best : Closest) → Kept (i ∷ []) best (visit_of (tri i) ray i best)
  unfolding visit_of Among
  visit_kept i best = go (intersect_max_of (tri i) ray best.distance) refl
    where
      go : (x : Crossing) → intersect_max_of (tri i) ray best.distance ≡ x → Kept (i ∷ []) best (Rattle.tree_trace.specs.Leaf.keep_of x i best)
      go None e = inl refl
      go (Some (t, p, q)) e = by (lt t best.distance || eqb best.found 0)
        where
          hit : Closest
          hit = record { distance = t; index = i; found = 1 }

          by : (k : Bool) → Kept (i ∷ []) best (cond k hit best)
          by true = inr (record { among = inl refl; within = best.distance; u = p; v = q; crosses = e })
          by false = inl refl

  visits_kept : (xs : List ℕ) (best : Closest) → Kept xs best (visit_all_of tri ray xs best)
  unfolding visit_all_of Among
  visits_kept [] best = inl refl
  visits_kept (x ∷ xs) best =
      let next = visit_of (tri x) ray x best in
      kept_then (x ∷ xs) best next (visit_all_of tri ray xs next)
      (kept_wider (x ∷ []) (x ∷ xs) best next (λ i h. ⊎_elim (λ e. inl e) (λ z. absurd z) h) (visit_kept x best))
      (kept_wider xs (x ∷ xs) next (visit_all_of tri ray xs next) (λ i h. inr h) (visits_kept xs next))

  turns_kept : (xs : List ℕ) (a b : Option Float) (f g : Closest → Closest) (best : Closest) → ((x : Closest) → Kept xs x (f x)) → ((x : Closest) → Kept xs x (g x)) →
      Kept xs best (foldl (λ (x : Closest) (h : Closest → Closest). h x) best (near_first a b f g))
  turns_kept xs None None f g best p q = inl refl
  turns_kept xs None (Some y) f g best p q = q best
  turns_kept xs (Some x) None f g best p q = p best
  turns_kept xs (Some x) (Some y) f g best p q = go (le x y)
    where
      go : (t : Bool) → Kept xs best (foldl (λ (x : Closest) (h : Closest → Closest). h x) best (cond t (f ∷ g ∷ []) (g ∷ f ∷ [])))
      go true = kept_then xs best (f best) (g (f best)) (p best) (q (f best))
      go false = kept_then xs best (g best) (f (g best)) (q best) (p (g best))

  trace_kept : (test : Test) (t : Tree) (best : Closest) → Kept (leaves_of t) best (trace_tree test tri ray t best)
  unfolding trace_tree leaves_of
  trace_kept test (leaf b xs) best = go (is_some (test b ray best.distance))
    where
      go : (k : Bool) → Kept xs best (cond k (visit_all_of tri ray xs best) best)
      go true = visits_kept xs best
      go false = inl refl
  trace_kept test (node b l r) best =
      go (is_some (test b ray best.distance))
      (turns_kept (leaves_of l ++ leaves_of r) (test (box_of l) ray best.distance) (test (box_of r) ray best.distance) (trace_tree test tri ray l) (trace_tree test tri ray r) best
      (λ x. kept_wider (leaves_of l) (leaves_of l ++ leaves_of r) x (trace_tree test tri ray l x) (λ i h. among_left i (leaves_of l) (leaves_of r) h) (trace_kept test l x))
      (λ x. kept_wider (leaves_of r) (leaves_of l ++ leaves_of r) x (trace_tree test tri ray r x) (λ i h. among_right i (leaves_of l) (leaves_of r) h) (trace_kept test r x)))
    where
      w : Closest
      w = foldl (λ (x : Closest) (h : Closest → Closest). h x) best (near_first (test (box_of l) ray best.distance) (test (box_of r) ray best.distance) (trace_tree test tri ray l) (trace_tree test tri ray r))

      go : (k : Bool) → Kept (leaves_of l ++ leaves_of r) best w → Kept (leaves_of l ++ leaves_of r) best (cond k w best)
      go true p = p
      go false p = inl refl

  -- THE HIT
  pub hit_is : (test : Test) (t : Tree) → (trace_tree test tri ray t (none ray)).found ≡ 1 → IsHit tri ray (leaves_of t) (trace_tree test tri ray t (none ray))
  hit_is test t f = ⊎_elim (λ e. absurd (no (sym (ap (λ (c : Closest). c.found) e) ∙ f))) (λ h. h) (trace_kept test t (none ray))
    where
      no : ◌≡◌ {A = ℕ} 0 1 → ⊥
      no z = omega arith
