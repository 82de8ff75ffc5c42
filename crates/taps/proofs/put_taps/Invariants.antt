-- `taps::put_taps` meets its contract: what is left to store gives the same area from each turn on.
use Prim.Native.Nat.{◌≤◌, ◌*◌}
use mathlib.Core.Path.{◌≡◌}
use lib.ListN.{length}
use lib.Seq.{sets}
use Rattle.packet.specs.Limits.{tap_words}
use Rattle.packet.specs.Tap.{all_words}
use Rattle.taps.specs.Areas.{taps_at}
use Rattle.taps.proofs.Storing.{taps_from}
use Rattle.taps.proofs.put_taps.Given as goal

abbrev pub invariant-loop-k : goal.invariant-loop-k
invariant-loop-k l =
    (l.k ≤ l.count) × (length l.taps ≡ length l.initial.taps)
    × (sets l.taps (l.k * tap_words) (all_words (taps_from l.candidate_floats l.candidate_words l.count l.positions l.k)) ≡ sets l.initial.taps 0 (all_words (taps_at l.candidate_floats l.candidate_words l.count l.positions)))
