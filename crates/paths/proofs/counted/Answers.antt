-- `paths::counted` meets its contract: its body is the definition.
use mathlib.Core.Path.{refl}
use Rattle.paths.proofs.counted.Goals as goal

pub returns : goal.returns
returns c = refl
