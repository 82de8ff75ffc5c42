-- `mirror::normal_ray` meets its contract: its body is the definition.
use mathlib.Core.Path.{refl}
use Rattle.mirror.specs.Locate.{normal_ray_of}
use Rattle.mirror.proofs.normal_ray.Goals as goal

pub returns : goal.returns
unfolding normal_ray_of
returns c is es = refl
