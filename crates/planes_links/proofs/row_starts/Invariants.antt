-- `planes_links::row_starts` meets its contract: the loop keeps `Starting`, and either passes a word or ends a row.
use mathlib.Core.Path.{◌≡◌}
use Prim.Native.Nat.{◌+◌, ◌-◌, ◌≤◌}
use lib.ListN.{length}
use Rattle.planes_links.proofs.Cutting.{Starting}
use Rattle.planes_links.proofs.row_starts.Given as goal

abbrev pub invariant-loop-r : goal.invariant-loop-r
invariant-loop-r l = (l.r ≤ l.rows + 1) × (l.i ≤ length l.sorted) × (length l.offsets ≡ length l.initial.offsets) × Starting l.sorted l.offsets l.r l.i

abbrev pub decreases-loop-r : goal.decreases-loop-r
decreases-loop-r l = (l.rows + 1 - l.r) + (length l.sorted - l.i)
