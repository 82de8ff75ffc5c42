-- `bands::scale` meets its contract: each band is the product that the definition has.
use Rattle.bands.specs.Band8.{scale_of}
use mathlib.Core.Path.{refl}
use Rattle.bands.proofs.scale.Goals as goal

pub returns : goal.returns
unfolding scale_of
returns c = refl
