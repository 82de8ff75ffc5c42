-- `settings_fault::model_number` meets its contract, by that of `between`.
use Rattle.scene.specs.Limits.{model_number_of}
use Rattle.settings_fault.proofs.model_number.Goals as goal

pub between-requires : goal.between-requires
unfolding model_number_of
between-requires c = tt

pub returns : goal.returns
unfolding model_number_of
returns c = c.between.ensures
