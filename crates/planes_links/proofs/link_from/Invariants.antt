-- `planes_links::link_from` meets its contract: the loop keeps `Added` of what the patches so far make.
use mathlib.Core.Path.{◌≡◌}
use Prim.Native.Nat.{◌+◌, ◌≤◌}
use lib.ListN.{length, take}
use Rattle.planes_links.specs.Words.{lows}
use Rattle.planes_links.specs.Links.{links_from}
use Rattle.planes_links.proofs.Linking.{Added}
use Rattle.planes_links.proofs.link_from.Given as goal

abbrev pub invariant-loop-patch : goal.invariant-loop-patch
invariant-loop-patch l = (l.patch-index ≤ length l.row) × (l.k ≤ l.from + l.patch-index) × (length l.words ≡ length l.initial.words) × Added (links_from l.p (take l.patch-index (lows l.row))) l.initial.words l.from l.words l.k
