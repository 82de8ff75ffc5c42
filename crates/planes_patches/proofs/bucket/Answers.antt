-- `planes_patches::bucket` meets its contract: three digits below 16, by computation and arithmetic.
use mathlib.Core.Path.{refl}
use native.Mathlib.Omega.{arith}
use Rattle.planes_patches.specs.Grid.{bucket_of}
use Rattle.planes_patches.proofs.bucket.Goals as goal

pub returns : goal.returns
unfolding bucket_of
returns c = (refl, omega arith)
