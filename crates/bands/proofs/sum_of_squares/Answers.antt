-- `bands::sum_of_squares` meets its contract: the squares are summed in the order of the definition.
use Rattle.bands.specs.Band8.{sum_of_squares_of}
use mathlib.Core.Path.{refl}
use Rattle.bands.proofs.sum_of_squares.Goals as goal

pub returns : goal.returns
unfolding sum_of_squares_of
returns c = refl
