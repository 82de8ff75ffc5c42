-- `planes_links::link_all` meets its contract: the loop keeps `Added` of what the first patches are linked to.
use mathlib.Core.Path.{◌≡◌}
use Prim.Native.Nat.{◌+◌, ◌*◌, ◌≤◌}
use lib.ListN.{length, take}
use Rattle.planes_links.specs.Words.{lows}
use Rattle.planes_links.proofs.Linking.{Added, links_some}
use Rattle.planes_links.proofs.link_all.Given as goal

abbrev pub invariant-loop-patch : goal.invariant-loop-patch
invariant-loop-patch l = (l.patch-index ≤ length l.row) × (l.k ≤ l.from + 8 * l.patch-index) × (length l.words ≡ length l.initial.words) × Added (links_some (take l.patch-index (lows l.row)) (lows l.row)) l.initial.words l.from l.words l.k
