-- `cost::rays_of` meets its contract: the rays of the first k orders, and then of one more.
use Rattle.cost.proofs.Totals.{Rays}
use Rattle.cost.proofs.rays_of.Given as goal

abbrev pub invariant-loop-k : goal.invariant-loop-k
invariant-loop-k l = Rays l.limit l.counts l.rays l.k
