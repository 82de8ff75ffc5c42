-- `planes_buried::mark_open` meets its contract: the loop holds it for the patches before p.
use mathlib.Core.Path.{◌≡◌}
use Prim.Native.Nat.{◌<◌, ◌≤◌, ℕ}
use lib.ListN.{get_or, length}
use Rattle.columns.specs.Columns.{triangle_at_of}
use Rattle.planes_buried.proofs.Opening.{Tells}
use Rattle.planes_buried.specs.Passes.{or_zero}
use Rattle.planes_buried.proofs.mark_open.Given as goal

abbrev pub invariant-loop-p : goal.invariant-loop-p
invariant-loop-p l =
    (l.p ≤ l.np) × (length l.flags ≡ length l.initial.flags) × ((q : ℕ) → q < l.p → Tells l.bvh.padded.now l.bvh.nodes.now l.bvh.leaf_order.now l.bvh.leaves.now l.bvh.handles.now (triangle_at_of l.triangles l.bvh.handles.now l.n (or_zero (get_or l.largest q 0))) l.reach (get_or l.flags q 0))
