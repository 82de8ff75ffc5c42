-- `paths::usable` meets its contract: what its calls promise, and its tests.
use Rattle.paths.specs.Gains.{usable_of}
use Rattle.paths.proofs.usable.Goals as goal

pub is_finite-requires : goal.is_finite-requires
unfolding usable_of
is_finite-requires c = tt

pub returns-then-total : goal.returns-then-total
unfolding usable_of
returns-then-total c = rw (← c.is_finite.ensures, c.if-is_finite.true, c.if-total.true)

pub returns-else-total : goal.returns-else-total
unfolding usable_of
returns-else-total c = rw (← c.is_finite.ensures, c.if-is_finite.true, c.if-total.false)

pub returns-else-is_finite : goal.returns-else-is_finite
unfolding usable_of
returns-else-is_finite c = rw (← c.is_finite.ensures, c.if-is_finite.false)
