-- `vector::dot3` meets its contract: the three products are summed in the order of the definition.
use mathlib.Core.Path.{refl}
use Rattle.vector.specs.Vector.{dot3_of}
use Rattle.vector.proofs.dot3.Goals as goal

pub returns : goal.returns
unfolding dot3_of
returns c = refl
