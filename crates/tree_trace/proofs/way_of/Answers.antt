-- `tree_trace::way_of` meets its contract: what its calls promise.
use Rattle.tree_trace.specs.Slopes.{way_of}
use Rattle.tree_trace.proofs.way_of.Goals as goal

pub returns : goal.returns
unfolding way_of
returns c = rw (← c.slopes_of-slopes.ensures, ← c.any_along-along.ensures)
