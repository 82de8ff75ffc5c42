-- `clearing::blank` meets its contract: what lies before i became zero, and what was zero stays so.
use Prim.Native.Nat.{◌≤◌}
use mathlib.Core.Path.{◌≡◌}
use lib.ListN.{length}
use Rattle.clearing.specs.Runs.{Wiped}
use Rattle.clearing.proofs.blank.Given as goal

abbrev pub invariant-loop-i : goal.invariant-loop-i
invariant-loop-i g l = (l.i ≤ l.to) × (length l.area ≡ length l.initial.area) × Wiped g.T.Clear.zero g.T.Clear.past l.initial.area l.area l.from l.i
