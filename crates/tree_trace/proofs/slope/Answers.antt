-- `tree_trace::slope` meets its contract: by its test. 0 / 0 is the NaN.
use Rattle.float.proofs.Patterns.{made_nan}
use Rattle.tree_trace.specs.Slopes.{slope_of}
use Rattle.tree_trace.proofs.slope.Goals as goal

pub returns-then-is_along : goal.returns-then-is_along
unfolding slope_of
returns-then-is_along c = rw (← c.is_along.ensures, c.if-is_along.true) made_nan

pub returns : goal.returns
unfolding slope_of
returns c = rw (← c.is_along.ensures, c.if-is_along.false)
