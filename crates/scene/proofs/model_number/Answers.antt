-- `scene::model_number` meets its contract: by the contract of `between`.
use Rattle.scene.specs.Limits.{model_number_of}
use Rattle.scene.proofs.model_number.Goals as goal

pub between-requires : goal.between-requires
unfolding model_number_of
between-requires c = tt

pub returns : goal.returns
unfolding model_number_of
returns c = rw (← c.between.ensures)
