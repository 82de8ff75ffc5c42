-- `geometry::third` meets its contract: the sum and the quotient that the definition has.
use Rattle.geometry.specs.Triangle.{third_of}
use mathlib.Core.Path.{refl}
use Rattle.geometry.proofs.third.Goals as goal

pub returns : goal.returns
unfolding third_of
returns c = refl
