-- `planes_links::compact` meets its contract: the loop keeps `Compacting` of the words' upper halves.
use mathlib.Core.Path.{◌≡◌}
use mathlib.Core.List.{map}
use Prim.Native.Nat.{◌≤◌, ◌<◌}
use lib.ListN.{length, get_or}
use Rattle.order.specs.Radix.{upper}
use Rattle.planes_links.proofs.Compacting.{Compacting}
use Rattle.planes_links.proofs.compact.Given as goal

abbrev pub invariant-loop-word : goal.invariant-loop-word
invariant-loop-word l = (l.word-index ≤ length l.words) × (l.k ≤ l.word-index) × (length l.sorted ≡ length l.initial.sorted) × Compacting (map upper l.words) l.sorted l.last l.k l.word-index × (0 < l.word-index → get_or l.words 0 0 < 18446744073709551616)
