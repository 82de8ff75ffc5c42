-- `booth::set_ends` meets its contract: each turn is one mesh more.
use mathlib.Core.Path.{◌≡◌}
use lib.ListN.{length}
use Rattle.booth.proofs.set_ends.Given as goal

abbrev pub invariant-loop-j : goal.invariant-loop-j
invariant-loop-j l = length l.ends ≡ length l.initial.ends
