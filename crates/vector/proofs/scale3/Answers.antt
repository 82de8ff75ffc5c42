-- `vector::scale3` meets its contract: each coordinate is the product that the definition has.
use mathlib.Core.Path.{refl}
use Rattle.vector.specs.Vector.{scale3_of}
use Rattle.vector.proofs.scale3.Goals as goal

pub returns : goal.returns
unfolding scale3_of
returns c = refl
