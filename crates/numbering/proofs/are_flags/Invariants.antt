-- `numbering::are_flags` meets its contract. The loop's invariant: the bytes from i on decide.
use Prim.Native.Nat.{◌≤◌}
use mathlib.Core.Path.{◌≡◌}
use lib.ListN.{length, drop}
use Rattle.numbering.specs.Walls.{flags}
use Rattle.numbering.proofs.are_flags.Given as goal

abbrev pub invariant-loop-byte : goal.invariant-loop-byte
invariant-loop-byte l = (l.byte-index ≤ length l.on) × (flags (drop l.byte-index l.on) ≡ flags l.on)
