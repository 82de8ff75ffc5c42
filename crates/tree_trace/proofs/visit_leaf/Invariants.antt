-- `tree_trace::visit_leaf` meets its contract: the rest of the leaf from here gives what the whole gives.
use mathlib.Core.Path.{◌≡◌}
use Prim.Native.Nat.{ℕ, ◌-◌, ◌≤◌}
use lib.ListN.{take, drop}
use Rattle.geometry.specs.declared.Triangle.{Triangle}
use Rattle.tree_trace.specs.Leaf.{visit_all_of, LeafRows}
use Rattle.tree_trace.proofs.visit_leaf.Given as goal

abbrev pub invariant-loop-k : goal.invariant-loop-k
invariant-loop-k l =
    (l.start ≤ l.k) × ((tri : ℕ → Triangle) → LeafRows tri l.leaf_order l.leaves →
    visit_all_of tri l.ray (take (l.end - l.k) (drop l.k l.leaf_order)) l.closest ≡ visit_all_of tri l.ray (take (l.end - l.start) (drop l.start l.leaf_order)) l.initial.closest)
