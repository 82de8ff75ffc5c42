-- `packet::squared_gain_sum` meets its contract: the sum so far and the gains left give the sum of all.
use Prim.Native.Nat.{◌≤◌}
use mathlib.Core.Path.{◌≡◌}
use mathlib.Core.Bool.{true}
use mathlib.Core.List.{foldl}
use Rattle.packet.specs.Floats.{finite_bits}
use Rattle.packet.specs.Refusals.{all, squared_sum, plus_square}
use Rattle.packet.proofs.Areas.{window}
use Rattle.packet.proofs.squared_gain_sum.Given as goal

abbrev pub invariant-loop-k : goal.invariant-loop-k
invariant-loop-k l = (l.k ≤ 8) × (all finite_bits (window l.at l.k l.taps) ≡ true) × (squared_sum (window l.at 0 l.taps) ≡ foldl plus_square l.s (window l.at l.k l.taps))
