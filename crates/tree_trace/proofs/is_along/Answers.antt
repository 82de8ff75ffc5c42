-- `tree_trace::is_along` meets its contract: one comparison.
use Rattle.tree_trace.specs.Slopes.{along_of}
use Rattle.tree_trace.proofs.is_along.Goals as goal

pub returns : goal.returns
unfolding along_of
returns c = rw (← c.abs.ensures)
