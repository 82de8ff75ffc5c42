-- `planes_buried::signed` meets its contract: by computation.
use mathlib.Core.Path.{refl}
use Rattle.planes_buried.specs.Buried.{signed_of}
use Rattle.planes_buried.proofs.signed.Goals as goal

pub returns : goal.returns
unfolding signed_of
returns c = refl
