-- `packet::all_in_range` meets its contract: the test of the taps from each turn on is the test of all of them.
use Prim.Native.Nat.{◌≤◌}
use mathlib.Core.Path.{◌≡◌}
use Rattle.packet.specs.Tap.{taps_of}
use Rattle.packet.specs.Refusals.{all, in_range}
use Rattle.packet.proofs.Areas.{taps_from}
use Rattle.packet.proofs.all_in_range.Given as goal

abbrev pub invariant-loop-i : goal.invariant-loop-i
invariant-loop-i l = (l.i ≤ l.count) × (all (in_range l.images) (taps_of l.count l.taps) ≡ all (in_range l.images) (taps_from l.count l.i l.taps))
