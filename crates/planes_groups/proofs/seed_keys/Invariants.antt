-- `planes_groups::seed_keys` meets its contract: the loop holds that the keys of the first patches are there.
use mathlib.Core.Path.{◌≡◌}
use Prim.Native.Nat.{ℕ, ◌+◌, ◌*◌, ◌≤◌, ◌<◌}
use lib.ListN.{length, get_or, take}
use lib.Ieee.{nan}
use Rattle.order.specs.Runs.{head_or, up_to}
use Rattle.planes_links.specs.Words.{row_in}
use Rattle.planes_groups.specs.Groups.{key_for_falling}
use Rattle.planes_groups.proofs.seed_keys.Given as goal

abbrev pub invariant-loop-p : goal.invariant-loop-p
invariant-loop-p l = (l.p ≤ l.np) × (length l.keys ≡ length l.initial.keys) × (length l.order ≡ length l.initial.order) × (take l.p l.order ≡ up_to l.p) × ((q : ℕ) → q < l.p → get_or l.keys q 0 ≡ key_for_falling (get_or l.rows (11 * q + 4) nan) (head_or 0 (row_in l.tsorted l.tstarts q)))
