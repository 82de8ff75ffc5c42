-- `cost::counts_of` meets its contract: a turn a level, by the laws of `Turns`.
use Rattle.cost.proofs.Turns.{Turned}
use Rattle.cost.proofs.counts_of.Given as goal

abbrev pub invariant-loop-k : goal.invariant-loop-k
invariant-loop-k l = Turned l.m l.order l.images l.counts l.k l.full l.under
