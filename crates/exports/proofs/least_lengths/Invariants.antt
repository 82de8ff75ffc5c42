-- `exports::least_lengths` meets its contract: the first i stand.
use mathlib.Core.Path.{◌≡◌}
use Prim.Native.Nat.{◌≤◌}
use lib.ListN.{length, take}
use Rattle.exports.specs.Lengths.{least_lengths_of}
use Rattle.exports.proofs.least_lengths.Given as goal

abbrev pub invariant-loop-i : goal.invariant-loop-i
invariant-loop-i l = (l.i ≤ 20) × (length l.lens ≡ 20) × (take l.i l.lens ≡ take l.i (least_lengths_of l.t l.room))
