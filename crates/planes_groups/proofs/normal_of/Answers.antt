-- `planes_groups::normal_of` meets its contract: as it reads.
use mathlib.Core.Path.{refl}
use Rattle.mirror.specs.Rows.{vec_of_floats}
use Rattle.planes_groups.proofs.normal_of.Goals as goal

pub returns : goal.returns
unfolding vec_of_floats
returns c = refl
