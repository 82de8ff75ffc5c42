-- `clearing::marks_u64` meets its contract: as long as no bit was met, all that was read of either run is zero.
use Prim.Native.Nat.{◌≤◌}
use mathlib.Core.Path.{◌≡◌}
use Rattle.clearing.specs.Runs.{Run}
use Rattle.clearing.proofs.marks_u64.Given as goal

abbrev pub invariant-loop-k : goal.invariant-loop-k
invariant-loop-k l = (l.k ≤ 64) × (l.marks ≡ 0 → Run 0 0 l.area l.near l.k × Run 0 0 l.area l.far l.k)
