-- `bands::inverse` meets its contract: one quotient, by the contract of `max`.
use Rattle.bands.specs.Distance.{inverse_of}
use Rattle.bands.proofs.inverse.Goals as goal

pub max-requires : goal.max-requires
unfolding inverse_of
max-requires c = tt

pub returns : goal.returns
unfolding inverse_of
returns c = rw (← c.max.ensures)
