-- `segments::transmission_of` meets its contract: what its calls promise, and its tests.
use Rattle.segments.specs.Materials.{transmission_of_handle}
use borrow.Author.Rules.{rules}
use Rattle.segments.proofs.transmission_of.Goals as goal

pub returns : goal.returns
unfolding transmission_of_handle
returns c = rw (← c.bands_in.ensures, ← c.clamped.ensures)
