-- `planes_groups::each_alone` meets its contract: the loop keeps `Alone`.
use mathlib.Core.Path.{◌≡◌}
use Prim.Native.Nat.{◌≤◌}
use lib.ListN.{length}
use Rattle.planes_groups.proofs.Grouping.{Alone}
use Rattle.planes_groups.proofs.each_alone.Given as goal

abbrev pub invariant-loop-i : goal.invariant-loop-i
invariant-loop-i l = (l.i ≤ l.np) × (length l.queue ≡ length l.initial.queue) × (length l.offsets ≡ length l.initial.offsets) × Alone l.order l.queue l.offsets l.i
