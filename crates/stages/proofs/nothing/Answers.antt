-- `stages::nothing` meets its contract: by computation.
use Rattle.stages.specs.Paths.{nothing_of}
use Rattle.stages.proofs.nothing.Goals as goal

pub returns : goal.returns
unfolding nothing_of
returns c = rw (← c.splat-gains.ensures)

pub splat-gains-requires : goal.splat-gains-requires
splat-gains-requires c = tt
