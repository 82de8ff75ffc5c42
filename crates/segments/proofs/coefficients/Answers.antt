-- `segments::coefficients` meets its contract: what its calls promise, and its tests.
use Rattle.segments.specs.Materials.{coefficients_of}
use Rattle.segments.proofs.coefficients.Goals as goal

pub returns : goal.returns
unfolding coefficients_of
returns c = rw (
  ← c.coefficient.ensures,
  ← c.coefficient-2.ensures,
  ← c.coefficient-3.ensures,
  ← c.coefficient-4.ensures,
  ← c.coefficient-5.ensures,
  ← c.coefficient-6.ensures,
  ← c.coefficient-7.ensures,
  ← c.coefficient-8.ensures,
)
