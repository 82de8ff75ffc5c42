-- `bands::held` meets its contract: by its test for a finite number, then the contract of `max`.
use Rattle.bands.specs.Distance.{held_of}
use Rattle.bands.proofs.held.Goals as goal

pub is_finite-requires : goal.is_finite-requires
unfolding held_of
is_finite-requires c = tt

pub max-requires : goal.max-requires
unfolding held_of
max-requires c = tt

pub returns-then-is_finite : goal.returns-then-is_finite
unfolding held_of
returns-then-is_finite c = rw (← c.is_finite.ensures, c.if-is_finite.true, ← c.max.ensures)

pub returns : goal.returns
unfolding held_of
returns c = rw (← c.is_finite.ensures, c.if-is_finite.false)
