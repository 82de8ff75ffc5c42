-- `packet::bit_map` meets its contract: from the last band down, the map so far is that of the gains from there on.
use Prim.Native.Nat.{◌≤◌}
use mathlib.Core.Path.{◌≡◌}
use Rattle.packet.specs.Tap.{bits_of_gains}
use Rattle.packet.proofs.Areas.{window}
use Rattle.packet.proofs.bit_map.Given as goal

abbrev pub invariant-loop-k : goal.invariant-loop-k
invariant-loop-k l = (l.k ≤ 8) × (l.m ≡ bits_of_gains (window l.at l.k l.taps))
