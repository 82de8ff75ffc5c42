-- `packet::are_valid_gains` meets its contract: the test of the gains from each turn on, by what is left of the bit map, is the test of all of them.
use Prim.Native.Nat.{◌≤◌}
use mathlib.Core.Path.{◌≡◌}
use Rattle.packet.specs.Refusals.{valid_gains}
use Rattle.packet.proofs.Areas.{window}
use Rattle.packet.proofs.are_valid_gains.Given as goal

abbrev pub invariant-loop-k : goal.invariant-loop-k
invariant-loop-k l = (l.k ≤ 8) × (valid_gains l.bits (window l.at 0 l.taps) ≡ valid_gains l.m (window l.at l.k l.taps))
