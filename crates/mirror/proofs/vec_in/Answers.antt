-- `mirror::vec_in` meets its contract: its body is the definition.
use Rattle.mirror.specs.Rows.{vec_of_floats}
use mathlib.Core.Path.{refl}
use Rattle.mirror.proofs.vec_in.Goals as goal

pub returns : goal.returns
unfolding vec_of_floats
returns c = refl
