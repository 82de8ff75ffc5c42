-- `packet::neighbours_differ` meets its contract: what is left to compare gives the same answer from each turn on.
use Prim.Native.Nat.{◌≤◌, ◌-◌}
use mathlib.Core.Path.{◌≡◌}
use lib.ListN.{drop}
use Rattle.packet.specs.Helpers.{none_repeats}
use Rattle.packet.proofs.neighbours_differ.Given as goal

abbrev pub invariant-loop-i : goal.invariant-loop-i
invariant-loop-i l = (1 ≤ l.i) × (none_repeats l.keys ≡ none_repeats (drop (l.i - 1) l.keys))
