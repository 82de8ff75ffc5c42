-- `packet::read_taps` meets its contract: what is left to store gives the same area from each turn on.
use Prim.Native.Nat.{◌≤◌, ◌-◌, ◌*◌}
use mathlib.Core.Path.{◌≡◌}
use mathlib.Core.Bool.{true}
use lib.ListN.{length, drop}
use lib.Seq.{sets}
use Rattle.packet.specs.Limits.{head_bytes, tap_words}
use Rattle.packet.specs.Tap.{all_words}
use Rattle.packet.specs.Bytes.{has_only_taps, taps_in}
use Rattle.packet.proofs.read_taps.Given as goal

abbrev pub invariant-loop-i : goal.invariant-loop-i
invariant-loop-i l = (l.i ≤ l.count) × (length l.area ≡ length l.initial.area) × (l.at ≤ length l.b) × (has_only_taps (l.count - l.i) (drop l.at l.b) ≡ true) × (sets l.area (l.i * tap_words) (all_words (taps_in (l.count - l.i) (drop l.at l.b))) ≡ sets l.initial.area 0 (all_words (taps_in l.count (drop head_bytes l.b))))
