-- `bands::furthest` meets its contract: by its test for a NaN, then the contract of `max`.
use Rattle.bands.specs.Distance.{furthest_of}
use Rattle.bands.proofs.furthest.Goals as goal

pub is_nan-requires : goal.is_nan-requires
unfolding furthest_of
is_nan-requires c = tt

pub returns-then-is_nan : goal.returns-then-is_nan
unfolding furthest_of
returns-then-is_nan c = rw (← c.is_nan.ensures, c.if-is_nan.true)

pub max-requires : goal.max-requires
unfolding furthest_of
max-requires c = tt

pub returns : goal.returns
unfolding furthest_of
returns c = rw (← c.is_nan.ensures, c.if-is_nan.false, ← c.max.ensures)
