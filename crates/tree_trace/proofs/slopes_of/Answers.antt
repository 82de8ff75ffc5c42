-- `tree_trace::slopes_of` meets its contract: axis by axis.
use Rattle.tree_trace.specs.Slopes.{slopes_of_direction}
use Rattle.tree_trace.proofs.slopes_of.Goals as goal

pub returns : goal.returns
unfolding slopes_of_direction
returns c = rw (← c.slope.ensures, ← c.slope-2.ensures, ← c.slope-3.ensures)
