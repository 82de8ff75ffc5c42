-- `planes_fit::alone` meets its contract: its row is that of the definition, by computation.
use Rattle.planes_fit.specs.Rows.{alone_row_of}
use mathlib.Core.Path.{refl}
use Rattle.planes_fit.proofs.alone.Goals as goal

pub returns : goal.returns
unfolding alone_row_of
returns c = refl
