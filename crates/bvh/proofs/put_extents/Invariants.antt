-- `bvh::put_extents` meets its contract: the rows so far are those of the triangles so far.
use mathlib.Core.Path.{◌≡◌}
use Prim.Native.Nat.{◌≤◌}
use lib.ListN.{length}
use Rattle.bvh.proofs.Laws as law
use Rattle.bvh.proofs.put_extents.Given as goal

abbrev pub invariant-loop-i : goal.invariant-loop-i
invariant-loop-i l = (l.i ≤ l.count) × (length l.extents ≡ length l.initial.extents) × law.ExtentsTo l.triangles l.handles l.n l.extents l.i
