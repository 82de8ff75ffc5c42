-- `bands::linear` meets its contract: by its two tests of the span, either the line or 1.
use Rattle.bands.specs.Distance.{linear_of}
use Rattle.bands.proofs.linear.Goals as goal

pub is_finite-requires : goal.is_finite-requires
unfolding linear_of
is_finite-requires c = tt

pub min-requires : goal.min-requires
unfolding linear_of
min-requires c = tt

pub returns-then-span : goal.returns-then-span
unfolding linear_of
returns-then-span c = rw (← c.is_finite.ensures, c.if-is_finite.true, c.if-span.true, ← c.min.ensures)

pub returns-else-span : goal.returns-else-span
unfolding linear_of
returns-else-span c = rw (← c.is_finite.ensures, c.if-is_finite.true, c.if-span.false)

pub returns-else-is_finite : goal.returns-else-is_finite
unfolding linear_of
returns-else-is_finite c = rw (← c.is_finite.ensures, c.if-is_finite.false)
