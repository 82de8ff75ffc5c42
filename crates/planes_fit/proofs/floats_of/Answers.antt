-- `planes_fit::floats_of` meets its contract: by computation.
use mathlib.Core.Path.{refl}
use Rattle.planes_fit.proofs.floats_of.Goals as goal

pub returns : goal.returns
returns c = refl
