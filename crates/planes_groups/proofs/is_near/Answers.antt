-- `planes_groups::is_near` meets its contract: from those of its calls.
use Rattle.planes_groups.proofs.is_near.Goals as goal

pub returns : goal.returns
returns c = rw (← c.dot3.ensures, ← c.abs.ensures)

pub dot3-requires : goal.dot3-requires
dot3-requires c = tt

pub abs-requires : goal.abs-requires
abs-requires c = tt
