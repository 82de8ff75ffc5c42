-- `planes_patches::first_in_cell` meets its contract: the loop holds that no patch before p matches (`Buckets`).
use Prim.Native.Nat.{◌-◌}
use Rattle.planes_patches.specs.Grid.{key}
use Rattle.planes_patches.proofs.Buckets.{Walked}
use Rattle.planes_patches.proofs.first_in_cell.Given as goal

abbrev pub invariant-loop-k : goal.invariant-loop-k
invariant-loop-k l = Walked l.rows l.cells (key l.x l.y l.z) l.k.normal l.k.offset l.tail l.p

abbrev pub decreases-loop-k : goal.decreases-loop-k
decreases-loop-k l = l.tail - l.p
