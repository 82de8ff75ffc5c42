-- `arguments::point_from` meets its contract: by computation.
use mathlib.Core.Path.{refl}
use Rattle.arguments.specs.Point.{given_point}
use Rattle.arguments.proofs.point_from.Goals as goal

pub returns : goal.returns
unfolding given_point
returns c = refl
