-- `arguments::air_from` meets its contract: each coefficient from its place.
use mathlib.Core.Path.{refl}
use Rattle.arguments.specs.Settings.{given_air}
use Rattle.arguments.proofs.air_from.Goals as goal

pub returns : goal.returns
unfolding given_air
returns c = refl
