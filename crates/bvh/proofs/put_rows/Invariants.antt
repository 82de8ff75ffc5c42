-- `bvh::put_rows` meets its contract: the rows so far are those of the triangles that the order has so far.
use mathlib.Core.Path.{◌≡◌}
use Prim.Native.Nat.{◌≤◌}
use lib.ListN.{length}
use Rattle.bvh.proofs.Laws as law
use Rattle.bvh.proofs.put_rows.Given as goal

abbrev pub invariant-loop-k : goal.invariant-loop-k
invariant-loop-k l = (l.k ≤ length l.leaf_order) × (length l.leaves ≡ length l.initial.leaves) × law.RowsTo l.triangles l.n l.leaf_order l.leaves l.k
