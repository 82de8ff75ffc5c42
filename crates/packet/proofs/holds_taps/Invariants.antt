-- `packet::holds_taps` meets its contract: the bytes from each turn on hold the taps left where all hold all.
use Prim.Native.Nat.{◌≤◌, ◌-◌}
use mathlib.Core.Path.{◌≡◌}
use lib.ListN.{length, drop}
use Rattle.packet.specs.Limits.{head_bytes}
use Rattle.packet.specs.Bytes.{has_only_taps}
use Rattle.packet.proofs.holds_taps.Given as goal

abbrev pub invariant-loop-i : goal.invariant-loop-i
invariant-loop-i l = (l.i ≤ l.count) × (l.at ≤ length l.b) × (has_only_taps l.count (drop head_bytes l.b) ≡ has_only_taps (l.count - l.i) (drop l.at l.b))
