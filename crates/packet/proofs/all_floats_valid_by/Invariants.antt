-- `packet::all_floats_valid_by` meets its contract: the test of the packet's taps from each turn on is the test of all of them; the area's taps are theirs but for the bit maps.
use Prim.Native.Nat.{◌≤◌, ◌-◌}
use mathlib.Core.Path.{◌≡◌}
use mathlib.Core.Bool.{true}
use mathlib.Core.List.{map}
use lib.ListN.{length, drop}
use Rattle.packet.specs.Limits.{head_bytes}
use Rattle.packet.specs.Bytes.{has_only_taps, taps_in}
use Rattle.packet.specs.Refusals.{all, valid_floats}
use Rattle.packet.specs.Helpers.{in_area}
use Rattle.packet.proofs.Areas.{taps_from}
use Rattle.packet.proofs.all_floats_valid_by.Given as goal

abbrev pub invariant-loop-i : goal.invariant-loop-i
invariant-loop-i l = (l.i ≤ l.count) × (l.at ≤ length l.b) × (has_only_taps (l.count - l.i) (drop l.at l.b) ≡ true) × (taps_from l.count l.i l.taps ≡ map in_area (taps_in (l.count - l.i) (drop l.at l.b))) × (all valid_floats (taps_in l.count (drop head_bytes l.b)) ≡ all valid_floats (taps_in (l.count - l.i) (drop l.at l.b)))
