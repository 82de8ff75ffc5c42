-- `cost::words_of` meets its contract: the words of the first i areas, and then of one more.
use Rattle.cost.proofs.Totals.{Words}
use Rattle.cost.proofs.words_of.Given as goal

abbrev pub invariant-loop-i : goal.invariant-loop-i
invariant-loop-i l = Words l.t l.c l.words l.i
