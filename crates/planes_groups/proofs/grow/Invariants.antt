-- `planes_groups::grow` meets its contract: the loop keeps `Breadth`.
use mathlib.Core.Path.{◌≡◌}
use Prim.Native.Nat.{◌-◌}
use lib.ListN.{length}
use Rattle.planes_groups.specs.Rows.{takes_in}
use Rattle.planes_groups.proofs.Breadth.{Breadth}
use Rattle.planes_groups.proofs.grow.Given as goal

abbrev pub invariant-loop-head : goal.invariant-loop-head
invariant-loop-head l = (length l.assigned ≡ length l.initial.assigned) × (length l.queue ≡ length l.initial.queue) × Breadth l.np (takes_in l.triangles l.handles l.n l.rows l.tsorted l.tstarts l.least l.most l.seed) l.asorted l.astarts l.initial.assigned l.initial.queue l.from l.to l.assigned l.queue l.head l.tail

abbrev pub decreases-loop-head : goal.decreases-loop-head
decreases-loop-head l = l.np - l.head
