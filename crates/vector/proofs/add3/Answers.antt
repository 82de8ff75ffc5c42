-- `vector::add3` meets its contract: each coordinate is the sum that the definition has.
use mathlib.Core.Path.{refl}
use Rattle.vector.specs.Vector.{add3_of}
use Rattle.vector.proofs.add3.Goals as goal

pub returns : goal.returns
unfolding add3_of
returns c = refl
