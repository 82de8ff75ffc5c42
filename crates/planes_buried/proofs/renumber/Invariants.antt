-- `planes_buried::renumber` meets its contract: the loop holds it for the triangles before i.
use Prim.Native.Nat.{◌≤◌}
use Rattle.planes_buried.proofs.Closing.{Renumbering}
use Rattle.planes_buried.proofs.renumber.Given as goal

abbrev pub invariant-loop-i : goal.invariant-loop-i
invariant-loop-i l = (l.i ≤ l.m) × Renumbering l.numbers l.initial.of l.of l.i
