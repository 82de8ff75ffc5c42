-- `paths::arrived` meets its contract: what its calls promise, and its tests.
use Rattle.paths.specs.Gains.{arrived_of}
use Rattle.paths.proofs.arrived.Goals as goal

pub sum_of_squares-requires : goal.sum_of_squares-requires
unfolding arrived_of
sum_of_squares-requires c = tt

pub mul-left-requires : goal.mul-left-requires
unfolding arrived_of
mul-left-requires c = tt

pub sum_of_squares-requires-then-sum_of_squares : goal.sum_of_squares-requires-then-sum_of_squares
unfolding arrived_of
sum_of_squares-requires-then-sum_of_squares c = tt

pub candidate-requires : goal.candidate-requires
unfolding arrived_of
candidate-requires c = tt

pub returns-then-sum_of_squares-2 : goal.returns-then-sum_of_squares-2
unfolding arrived_of
returns-then-sum_of_squares-2 c = rw (
  ← c.sum_of_squares.ensures,
  c.if-sum_of_squares.true,
  ← c.mul-left.ensures,
  ← c.sum_of_squares-then-sum_of_squares.ensures,
  c.if-sum_of_squares-2.true,
  ← c.candidate.ensures,
)

pub rejected-requires : goal.rejected-requires
unfolding arrived_of
rejected-requires c = tt

pub returns-then-sum_of_squares : goal.returns-then-sum_of_squares
unfolding arrived_of
returns-then-sum_of_squares c = rw (
  ← c.sum_of_squares.ensures,
  c.if-sum_of_squares.true,
  ← c.mul-left.ensures,
  ← c.sum_of_squares-then-sum_of_squares.ensures,
  c.if-sum_of_squares-2.false,
  ← c.rejected.ensures,
)

pub returns : goal.returns
unfolding arrived_of
returns c = rw (← c.sum_of_squares.ensures, c.if-sum_of_squares.false)
