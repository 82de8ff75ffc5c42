-- `bands::splat` meets its contract: each band is the value.
use Rattle.bands.specs.Band8.{splat_of}
use mathlib.Core.Path.{refl}
use Rattle.bands.proofs.splat.Goals as goal

pub returns : goal.returns
unfolding splat_of
returns c = refl
