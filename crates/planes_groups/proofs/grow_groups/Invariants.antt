-- `planes_groups::grow_groups` meets its contract: the loop keeps `Grouping`.
use mathlib.Core.Path.{◌≡◌}
use Prim.Native.Nat.{◌≤◌}
use lib.ListN.{length, take}
use Rattle.planes_groups.specs.Rows.{takes_in}
use Rattle.planes_groups.proofs.Grouping.{Grouping}
use Rattle.planes_groups.proofs.grow_groups.Given as goal

abbrev pub invariant-loop-i : goal.invariant-loop-i
invariant-loop-i l = (l.i ≤ l.np) × (l.ng ≤ l.i) × (length l.assigned ≡ length l.initial.assigned) × (length l.queue ≡ length l.initial.queue) × (length l.offsets ≡ length l.initial.offsets) × Grouping l.np (takes_in l.triangles l.handles l.n l.rows l.tsorted l.tstarts l.least l.most) l.asorted l.astarts
    (take l.np l.order) l.initial.assigned l.assigned l.queue l.offsets l.ng l.tail l.i
