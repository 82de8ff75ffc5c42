-- `packet::write_gains` meets its contract: what is left to store gives the same bytes from each turn on.
use Prim.Native.Nat.{◌≤◌, ◌+◌, ◌*◌}
use mathlib.Core.Path.{◌≡◌}
use lib.ListN.{length}
use lib.Seq.{sets}
use Rattle.packet.specs.Bytes.{gain_bytes}
use Rattle.packet.proofs.Areas.{window}
use Rattle.packet.proofs.write_gains.Given as goal

abbrev pub invariant-loop-k : goal.invariant-loop-k
invariant-loop-k l = (l.k ≤ 8) × (length l.out ≡ length l.initial.out) × (l.p ≤ l.from + 4 * l.k) × (sets l.out l.p (gain_bytes l.m (window l.at l.k l.taps)) ≡ sets l.initial.out l.from (gain_bytes l.bits (window l.at 0 l.taps))) × (l.p + length (gain_bytes l.m (window l.at l.k l.taps)) ≡ l.from + length (gain_bytes l.bits (window l.at 0 l.taps)))
