-- `packet::number_keys` meets its contract: what is left to store gives the same list from each turn on.
use Prim.Native.Nat.{◌≤◌}
use mathlib.Core.Path.{◌≡◌}
use mathlib.Core.List.{map}
use lib.ListN.{length}
use lib.Seq.{sets}
use Rattle.packet.specs.Tap.{taps_of}
use Rattle.packet.specs.Refusals.{number_of}
use Rattle.packet.specs.Helpers.{keys_of}
use Rattle.packet.proofs.Areas.{taps_from}
use Rattle.packet.proofs.number_keys.Given as goal

abbrev pub invariant-loop-i : goal.invariant-loop-i
invariant-loop-i l = (l.i ≤ length l.initial.keys) × (length l.keys ≡ length l.initial.keys) × (sets l.keys l.i (keys_of (map number_of (taps_from (length l.initial.keys) l.i l.taps))) ≡ sets l.initial.keys 0 (keys_of (map number_of (taps_of (length l.initial.keys) l.taps))))
