-- `cost::series` meets its contract: the sum for k terms, and then for one more.
use mathlib.Core.Path.{◌≡◌}
use Prim.Native.Nat.{◌≤◌}
use Rattle.sequences.specs.Count.{series}
use Rattle.cost.proofs.series.Given as goal

abbrev pub invariant-loop-k : goal.invariant-loop-k
invariant-loop-k l = (l.k ≤ l.d) × (l.s ≡ series l.m l.k)
