-- `planes_links::link_rows` meets its contract: the loop keeps `Told` of the rows so far.
use mathlib.Core.Path.{◌≡◌}
use Prim.Native.Nat.{◌*◌, ◌≤◌}
use lib.ListN.{length, get_or}
use Rattle.planes_links.specs.Words.{row_in}
use Rattle.planes_links.specs.Links.{is_linked}
use Rattle.planes_links.proofs.Pushing.{Told}
use Rattle.planes_links.proofs.link_rows.Given as goal

abbrev pub invariant-loop-v : goal.invariant-loop-v
invariant-loop-v l = (l.v ≤ l.rows) × (l.k ≤ 8 * get_or l.offsets l.v 0) × (length l.words ≡ length l.initial.words) × Told (λ a b r. is_linked (row_in l.sorted l.offsets r) a b) l.words l.k l.v
