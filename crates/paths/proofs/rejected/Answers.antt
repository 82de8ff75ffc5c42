-- `paths::rejected` meets its contract: what its calls promise, and its tests.
use Rattle.paths.specs.Gains.{rejected_of}
use Rattle.paths.proofs.rejected.Goals as goal

pub returns-then-weight : goal.returns-then-weight
unfolding rejected_of
returns-then-weight c = rw c.if-weight.true

pub sum_of_squares-requires : goal.sum_of_squares-requires
unfolding rejected_of
sum_of_squares-requires c = tt

pub returns-then-sum_of_squares : goal.returns-then-sum_of_squares
unfolding rejected_of
returns-then-sum_of_squares c = rw (c.if-weight.false, ← c.sum_of_squares.ensures, c.if-sum_of_squares.true)

pub returns : goal.returns
unfolding rejected_of
returns c = rw (c.if-weight.false, ← c.sum_of_squares.ensures, c.if-sum_of_squares.false)
