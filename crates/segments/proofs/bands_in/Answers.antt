-- `segments::bands_in` meets its contract: its body is the definition.
use Rattle.segments.specs.Materials.{bands_of_floats}
use mathlib.Core.Path.{refl}
use borrow.Author.Rules.{rules}
use Rattle.segments.proofs.bands_in.Goals as goal

pub returns : goal.returns
unfolding bands_of_floats
returns c = refl
