-- `vector::cross3` meets its contract: each coordinate is the difference of two products that the definition has.
use mathlib.Core.Path.{refl}
use Rattle.vector.specs.Vector.{cross3_of}
use Rattle.vector.proofs.cross3.Goals as goal

pub returns : goal.returns
unfolding cross3_of
returns c = refl
