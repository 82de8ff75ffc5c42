-- `packet::write_taps` meets its contract: what is left to store gives the same bytes from each turn on.
use Prim.Native.Nat.{◌≤◌, ◌+◌, ◌*◌}
use mathlib.Core.Path.{◌≡◌}
use mathlib.Core.Bool.{true}
use lib.ListN.{length}
use lib.Seq.{sets}
use Rattle.packet.specs.Limits.{head_bytes, longest_tap}
use Rattle.packet.specs.Tap.{taps_of}
use Rattle.packet.specs.Bytes.{taps_bytes}
use Rattle.packet.specs.Refusals.{all, in_range}
use Rattle.packet.proofs.Areas.{taps_from}
use Rattle.packet.proofs.write_taps.Given as goal

abbrev pub invariant-loop-i : goal.invariant-loop-i
invariant-loop-i l = (l.i ≤ l.count) × (length l.out ≡ length l.initial.out) × (l.p ≤ head_bytes + l.i * longest_tap) × (all (in_range l.images) (taps_from l.count l.i l.taps) ≡ true) × (sets l.out l.p (taps_bytes (taps_from l.count l.i l.taps)) ≡ sets l.initial.out head_bytes (taps_bytes (taps_of l.count l.taps))) × (l.p + length (taps_bytes (taps_from l.count l.i l.taps)) ≡ head_bytes + length (taps_bytes (taps_of l.count l.taps)))
