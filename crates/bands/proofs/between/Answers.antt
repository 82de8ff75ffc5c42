-- `bands::between` meets its contract: by its test for a NaN, then the contracts of `max` and `min`.
use Rattle.bands.specs.Distance.{between_of}
use Rattle.bands.proofs.between.Goals as goal

pub is_nan-requires : goal.is_nan-requires
unfolding between_of
is_nan-requires c = tt

pub returns-then-is_nan : goal.returns-then-is_nan
unfolding between_of
returns-then-is_nan c = rw (← c.is_nan.ensures, c.if-is_nan.true)

pub max-requires : goal.max-requires
unfolding between_of
max-requires c = tt

pub min-requires : goal.min-requires
unfolding between_of
min-requires c = tt

pub returns : goal.returns
unfolding between_of
returns c = rw (← c.is_nan.ensures, c.if-is_nan.false, ← c.max.ensures, ← c.min.ensures)
