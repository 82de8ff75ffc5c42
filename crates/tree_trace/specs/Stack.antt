-- The loop of `FlatBvh::intersect` over a stack of nodes, which `trace_of` stands for: the law is `stack_is_trace` of `proofs/Stack.antt`.
-- The stack's top is the list's front. A step takes the top, tests its box with the closest of then, and puts the children that are
-- entered on top, the nearer one last, so that it is taken first.
use Rattle.std.specs.Prelude.{ℕ, zero, suc, ◌+◌, cond, List, [], ◌∷◌, ◌++◌, is_some}
use Rattle.vector.specs.declared.Ray.{Ray}
use Rattle.geometry.specs.declared.Triangle.{Triangle}
use Rattle.tree_build.specs.Tree.{Tree, leaf, node, box_of}
use Rattle.tree_trace.specs.declared.Closest.{Closest}
use Rattle.tree_trace.specs.Leaf.{visit_all_of}
use Rattle.tree_trace.specs.Trace.{Test, near_first}

unfoldable pub stack_of : Test → (ℕ → Triangle) → Ray → ℕ → List Tree → Closest → Closest
stack_of test tri ray zero s best = best
stack_of test tri ray (suc turns) [] best = best
stack_of test tri ray (suc turns) (leaf b xs ∷ s) best =
    cond (is_some (test b ray best.distance)) (stack_of test tri ray turns s (visit_all_of tri ray xs best)) (stack_of test tri ray turns s best)
stack_of test tri ray (suc turns) (node b l r ∷ s) best =
    cond (is_some (test b ray best.distance))
    (stack_of test tri ray turns (near_first (test (box_of l) ray best.distance) (test (box_of r) ray best.distance) l r ++ s) best)
    (stack_of test tri ray turns s best)

-- how many nodes a tree has, and the trees of a list
abbrev pub size_of : Tree → ℕ
size_of (leaf b xs) = 1
size_of (node b l r) = suc (size_of l + size_of r)

abbrev pub sizes : List Tree → ℕ
sizes [] = 0
sizes (t ∷ ts) = size_of t + sizes ts
