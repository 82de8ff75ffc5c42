-- `vector::row` meets its contract: the four entries that it reads lie within the matrix, and are summed in the order of the definition.
use mathlib.Core.Path.{refl}
use Rattle.vector.specs.Transform.{row_of}
use Rattle.vector.proofs.row.Goals as goal

pub returns : goal.returns
unfolding row_of
returns c = refl
