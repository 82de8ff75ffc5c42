-- `mirror::along` meets its contract: its body is the definition.
use Rattle.vector.specs.Vector.{add3_of, scale3_of}
use Rattle.mirror.specs.Mirror.{along_of}
use mathlib.Core.Path.{refl}
use Rattle.mirror.proofs.along.Goals as goal

pub returns : goal.returns
unfolding along_of add3_of scale3_of
returns c = refl
