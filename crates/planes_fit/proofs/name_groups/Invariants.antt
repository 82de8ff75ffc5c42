-- `planes_fit::name_groups` meets its contract: the groups so far are named.
use mathlib.Core.Path.{◌≡◌}
use Prim.Native.Nat.{◌≤◌}
use lib.ListN.{length}
use Rattle.planes_fit.proofs.Naming.{Assigned}
use Rattle.planes_fit.proofs.name_groups.Given as goal

abbrev pub invariant-loop-g : goal.invariant-loop-g
invariant-loop-g l = (l.g ≤ l.ng) × ((length l.group_of ≡ length l.initial.group_of) × Assigned l.queue l.offsets l.group_of l.g)
