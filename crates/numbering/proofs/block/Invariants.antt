-- `numbering::block` meets its contract. The loop's invariant: b is the size of a block of k planes.
use Prim.Native.Nat.{◌≤◌}
use mathlib.Core.Path.{◌≡◌}
use Rattle.numbering.specs.Contract.{block_of}
use Rattle.numbering.proofs.block.Given as goal

abbrev pub invariant-loop-k : goal.invariant-loop-k
invariant-loop-k l = (l.k ≤ l.d) × (l.b ≡ block_of l.m l.k)
