-- `packets::words::hex_bytes` is safe: there are no more digits than places passed.
use Rattle.std.proofs.Common.{◌≤◌}
use Rattle.packets.proofs.words.hex_bytes.Given as goal

abbrev pub invariant-loop-b : goal.invariant-loop-b
invariant-loop-b l = l.k ≤ l.b-index
