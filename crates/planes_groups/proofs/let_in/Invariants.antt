-- `planes_groups::let_in` meets its contract: the loop keeps `Letting`.
use mathlib.Core.Path.{◌≡◌}
use Prim.Native.Nat.{◌≤◌}
use lib.ListN.{length}
use Rattle.planes_links.specs.Words.{lows}
use Rattle.planes_groups.specs.Rows.{takes_in}
use Rattle.planes_groups.proofs.Letting.{Letting}
use Rattle.planes_groups.proofs.let_in.Given as goal

abbrev pub invariant-loop-patch : goal.invariant-loop-patch
invariant-loop-patch l = (l.patch-index ≤ length l.row) × (length l.assigned ≡ length l.initial.assigned) × (length l.queue ≡ length l.initial.queue) × Letting l.np (takes_in l.triangles l.handles l.n l.rows l.tsorted l.tstarts l.least l.most l.seed) l.mark (lows l.row) l.initial.assigned l.initial.queue l.from l.assigned l.queue l.tail l.patch-index
