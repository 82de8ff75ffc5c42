-- `vector::sub3` meets its contract: each coordinate is the difference that the definition has.
use mathlib.Core.Path.{refl}
use Rattle.vector.specs.Vector.{sub3_of}
use Rattle.vector.proofs.sub3.Goals as goal

pub returns : goal.returns
unfolding sub3_of
returns c = refl
