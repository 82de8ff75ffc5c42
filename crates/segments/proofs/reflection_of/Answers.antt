-- `segments::reflection_of` meets its contract: what its calls promise, and its tests.
use Rattle.segments.specs.Materials.{reflection_of_handle}
use borrow.Author.Rules.{rules}
use Rattle.segments.proofs.reflection_of.Goals as goal

pub returns : goal.returns
unfolding reflection_of_handle
returns c = rw (← c.bands_in.ensures, ← c.coefficients.ensures)
