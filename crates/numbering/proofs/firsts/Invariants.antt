-- `numbering::firsts` meets its contract. The loop's invariant: e of the planes below p may come first.
use Prim.Native.Nat.{◌≤◌}
use mathlib.Core.Path.{◌≡◌}
use mathlib.Core.List.{[]}
use lib.ListN.{length}
use Rattle.sequences.specs.Allowed.{may}
use Rattle.sequences.specs.Count.{count}
use Rattle.numbering.proofs.firsts.Given as goal

abbrev pub invariant-loop-byte : goal.invariant-loop-byte
invariant-loop-byte l = (l.byte-index ≤ length l.on) × (l.e ≡ count (may l.on []) l.byte-index)
