-- `packet::are_sums_valid` meets its contract: the sums from each turn on are valid after the last one seen where all are; the first follows infinity.
use Prim.Native.Nat.{◌≤◌}
use mathlib.Core.Path.{◌≡◌}
use mathlib.Core.Bool.{true}
use mathlib.Core.List.{map}
use Rattle.packet.specs.Tap.{taps_of}
use Rattle.packet.specs.Refusals.{all, sum_of_squared_gains}
use Rattle.packet.specs.Helpers.{finite_gains}
use Rattle.packet.proofs.Areas.{taps_from}
use Rattle.packet.proofs.Sums.{falling, infinity}
use Rattle.packet.proofs.are_sums_valid.Given as goal

abbrev pub invariant-loop-i : goal.invariant-loop-i
invariant-loop-i l = (l.i ≤ l.count) × (all finite_gains (taps_from l.count l.i l.taps) ≡ true) × (falling infinity (map sum_of_squared_gains (taps_of l.count l.taps)) ≡ falling l.last (map sum_of_squared_gains (taps_from l.count l.i l.taps)))
