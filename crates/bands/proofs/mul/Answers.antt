-- `bands::mul` meets its contract: each band is the product that the definition has.
use Rattle.bands.specs.Band8.{mul_of}
use mathlib.Core.Path.{refl}
use Rattle.bands.proofs.mul.Goals as goal

pub returns : goal.returns
unfolding mul_of
returns c = refl
