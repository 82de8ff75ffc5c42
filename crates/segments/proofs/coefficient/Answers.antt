-- `segments::coefficient` meets its contract: what its calls promise, and its tests.
use Rattle.segments.specs.Materials.{coefficient_of}
use Rattle.segments.proofs.coefficient.Goals as goal

pub returns-then-is_finite : goal.returns-then-is_finite
unfolding coefficient_of
returns-then-is_finite c = rw (
  ← c.is_finite.ensures,
  c.if-is_finite.true,
  ← c.clamp.ensures,
  ← c.sqrt.ensures,
)

pub returns : goal.returns
unfolding coefficient_of
returns c = rw (← c.is_finite.ensures, c.if-is_finite.false, ← c.sqrt-2.ensures)
