-- `tree_trace::beside` meets its contract: by its tests.
use Rattle.tree_trace.specs.Slopes.{beside_of}
use Rattle.tree_trace.proofs.beside.Goals as goal

pub returns-then-o-low : goal.returns-then-o-low
unfolding beside_of
returns-then-o-low c = rw (← c.is_along.ensures, c.if-is_along.true, c.if-o-low.true)

pub returns-else-o-low : goal.returns-else-o-low
unfolding beside_of
returns-else-o-low c = rw (← c.is_along.ensures, c.if-is_along.true, c.if-o-low.false)

pub returns : goal.returns
unfolding beside_of
returns c = rw (← c.is_along.ensures, c.if-is_along.false)
