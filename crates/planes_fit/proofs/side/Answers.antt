-- `planes_fit::side` meets its contract: by that of `dot3`, and its test.
use Rattle.planes_fit.specs.Fit.{side_of}
use Rattle.planes_fit.proofs.side.Goals as goal

pub dot3-requires : goal.dot3-requires
unfolding side_of
dot3-requires c = tt

pub returns-then-dot3 : goal.returns-then-dot3
unfolding side_of
returns-then-dot3 c = rw (← c.dot3.ensures, c.if-dot3.true)

pub returns : goal.returns
unfolding side_of
returns c = rw (← c.dot3.ensures, c.if-dot3.false)
