-- `planes_fit::fitted` meets its contract: by the contracts of what it calls.
use Rattle.planes_fit.specs.Rows.{fitted_row_of}
use Rattle.planes_fit.proofs.fitted.Goals as goal

pub returns : goal.returns
unfolding fitted_row_of
returns c = rw (← c.normalize3.ensures, ← c.canonical-normal.ensures, ← c.mean_offset-offset.ensures, ← c.spread_of-spread.ensures)

pub normalize3-requires : goal.normalize3-requires
normalize3-requires c = tt

pub canonical-normal-requires : goal.canonical-normal-requires
canonical-normal-requires c = tt
