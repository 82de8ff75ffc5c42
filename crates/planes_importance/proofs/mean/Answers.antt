-- `planes_importance::mean` meets its contract: by that of `max`; the quotients are those of the definition.
use Rattle.planes_importance.specs.Importance.{mean_of}
use Rattle.planes_importance.proofs.mean.Goals as goal

pub max-w-requires : goal.max-w-requires
unfolding mean_of
max-w-requires c = tt

pub returns : goal.returns
unfolding mean_of
returns c = rw (← c.max-w.ensures)
