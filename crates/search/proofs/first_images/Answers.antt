-- `search::first_images` meets its contract: the source stands first.
use mathlib.Core.Path.{refl}
use Rattle.mirror.specs.Rows.{vec_of_floats}
use Rattle.search.proofs.first_images.Goals as goal

pub returns : goal.returns
unfolding vec_of_floats
returns c = (refl, refl)
