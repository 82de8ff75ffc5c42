-- The loop over a stack is the recursion: with turns enough for every node, the stack [t] gives `trace_tree t`. By induction on the turns: what
-- a step pushes is visited in its order, and then the rest of the stack.
use mathlib.Core.Path.{◌≡◌, refl, ap, ◌∙◌}
use mathlib.Core.Bool.{Bool, true, false, cond}
use mathlib.Core.List.{List, [], ◌∷◌, ◌++◌, foldl, foldl-append}
use Prim.Native.Nat.{ℕ, zero, suc, ◌+◌, ◌≤◌}
use native.Mathlib.Omega.{arith}
use lib.Ieee.{Float, le}
use Rattle.vector.specs.declared.Ray.{Ray}
use Rattle.geometry.specs.declared.Triangle.{Triangle}
use Rattle.std.specs.Prelude.{Option, None, Some, is_some}
use Rattle.tree_build.specs.Tree.{Tree, leaf, node, box_of}
use Rattle.tree_trace.specs.declared.Closest.{Closest}
use Rattle.tree_trace.specs.Leaf.{visit_all_of}
use Rattle.tree_trace.specs.Trace.{Test, near_first, trace_tree}
use Rattle.tree_trace.specs.Stack.{stack_of, size_of, sizes}

-- what is pushed has no more nodes than the two children
pushed : (a b : Option Float) (l r : Tree) (s : List Tree) → sizes (near_first a b l r ++ s) ≤ size_of l + size_of r + sizes s
pushed None None l r s = omega arith
pushed None (Some y) l r s = omega arith
pushed (Some x) None l r s = omega arith
pushed (Some x) (Some y) l r s = go (le x y)
  where
    go : (t : Bool) → sizes (cond t (l ∷ r ∷ []) (r ∷ l ∷ []) ++ s) ≤ size_of l + size_of r + sizes s
    go true = omega arith
    go false = omega arith

ordered : (a b : Option Float) (l r : Tree) (on : Tree → Closest → Closest) (best : Closest) →
    foldl (λ (x : Closest) (t : Tree). on t x) best (near_first a b l r) ≡ foldl (λ (x : Closest) (f : Closest → Closest). f x) best (near_first a b (on l) (on r))
ordered None None l r on best = refl
ordered None (Some y) l r on best = refl
ordered (Some x) None l r on best = refl
ordered (Some x) (Some y) l r on best = go (le x y)
  where
    go : (t : Bool) → foldl (λ (x : Closest) (t : Tree). on t x) best (cond t (l ∷ r ∷ []) (r ∷ l ∷ [])) ≡ foldl (λ (x : Closest) (f : Closest → Closest). f x) best (cond t (on l ∷ on r ∷ []) (on r ∷ on l ∷ []))
    go true = refl
    go false = refl

module _ (test : Test) (tri : ℕ → Triangle) (ray : Ray) where
  abbrev on : Tree → Closest → Closest
  on t x = trace_tree test tri ray t x

  abbrev all : Closest → List Tree → Closest
  all best s = foldl (λ (x : Closest) (t : Tree). trace_tree test tri ray t x) best s

  -- by whether a box is entered
  abbrev By : Bool → Closest → Closest → Closest → Type 0
  By t x y z = cond t x y ≡ z

  stack_all : (turns : ℕ) (s : List Tree) (best : Closest) → sizes s ≤ turns → stack_of test tri ray turns s best ≡ all best s
  unfolding stack_of trace_tree
  stack_all zero [] best h = refl
  stack_all zero (leaf b xs ∷ s) best h = absurd (none (sizes s) h)
    where
      none : (a : ℕ) → 1 + a ≤ 0 → ⊥
      none a h = omega arith
  stack_all zero (node b l r ∷ s) best h = absurd (none (size_of l + size_of r) (sizes s) h)
    where
      none : (a c : ℕ) → suc a + c ≤ 0 → ⊥
      none a c h = omega arith
  stack_all (suc turns) [] best h = refl
  stack_all (suc turns) (leaf b xs ∷ s) best h =
      go (is_some (test b ray best.distance)) (stack_all turns s (visit_all_of tri ray xs best) (omega arith)) (stack_all turns s best (omega arith))
    where
      v : Closest
      v = visit_all_of tri ray xs best

      go : (t : Bool) → stack_of test tri ray turns s v ≡ all v s → stack_of test tri ray turns s best ≡ all best s →
          cond t (stack_of test tri ray turns s v) (stack_of test tri ray turns s best) ≡ all (cond t v best) s
      go true p q = p
      go false p q = q
  stack_all (suc turns) (node b l r ∷ s) best h =
      let a = test (box_of l) ray best.distance in
      let c = test (box_of r) ray best.distance in
      let few : sizes (near_first a c l r ++ s) ≤ turns = let p = pushed a c l r s in omega arith in
      go (is_some (test b ray best.distance))
      (stack_all turns (near_first a c l r ++ s) best few
      ∙ foldl-append (λ (x : Closest) (t : Tree). trace_tree test tri ray t x) best (near_first a c l r) s
      ∙ ap (λ (x : Closest). all x s) (ordered a c l r (trace_tree test tri ray) best))
      (stack_all turns s best (omega arith))
    where
      v : Closest
      v = foldl (λ (x : Closest) (f : Closest → Closest). f x) best (near_first (test (box_of l) ray best.distance) (test (box_of r) ray best.distance) (trace_tree test tri ray l) (trace_tree test tri ray r))

      w : Closest
      w = stack_of test tri ray turns (near_first (test (box_of l) ray best.distance) (test (box_of r) ray best.distance) l r ++ s) best

      go : (t : Bool) → w ≡ all v s → stack_of test tri ray turns s best ≡ all best s →
          cond t w (stack_of test tri ray turns s best) ≡ all (cond t v best) s
      go true p q = p
      go false p q = q

  -- THE STACK IS THE RECURSION
  pub stack_is_trace : (t : Tree) (turns : ℕ) (best : Closest) → size_of t ≤ turns → stack_of test tri ray turns (t ∷ []) best ≡ trace_tree test tri ray t best
  stack_is_trace t turns best h = stack_all turns (t ∷ []) best (omega arith)
