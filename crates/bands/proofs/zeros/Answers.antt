-- `bands::zeros` meets its contract: by the contract of `splat` at +0.
use Rattle.bands.specs.Band8.{zeros_of}
use Rattle.bands.proofs.zeros.Goals as goal

pub splat-requires : goal.splat-requires
unfolding zeros_of
splat-requires c = tt

pub returns : goal.returns
unfolding zeros_of
returns c = rw (← c.splat.ensures)
