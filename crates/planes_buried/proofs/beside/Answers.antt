-- `planes_buried::beside` meets its contract: by computation.
use mathlib.Core.Path.{refl}
use Rattle.vector.specs.Vector.{add3_of, scale3_of}
use Rattle.planes_buried.proofs.beside.Goals as goal

pub returns : goal.returns
unfolding add3_of scale3_of
returns c = refl
