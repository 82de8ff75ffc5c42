-- `clearing::marks_f32` meets its contract: as long as no bit was met, all that was read of either run is zero.
use Prim.Native.Nat.{◌≤◌}
use mathlib.Core.Path.{◌≡◌}
use lib.Ieee.{nan}
use Rattle.float.specs.Literals.{zero32}
use Rattle.clearing.proofs.Wiping.{Quarters}
use Rattle.clearing.proofs.marks_f32.Given as goal

abbrev pub invariant-loop-k : goal.invariant-loop-k
invariant-loop-k l = (l.k ≤ 16) × (l.marks ≡ 0 → Quarters zero32 nan l.area l.near l.k × Quarters zero32 nan l.area l.far l.k)
