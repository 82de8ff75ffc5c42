-- `planes_importance::centre` meets its contract: by computation.
use Rattle.vector.specs.Vector.{scale3_of, add3_of}
use Rattle.planes_importance.specs.Importance.{centre_of}
use mathlib.Core.Path.{refl}
use Rattle.planes_importance.proofs.centre.Goals as goal

pub returns : goal.returns
unfolding centre_of scale3_of add3_of
returns c = refl
