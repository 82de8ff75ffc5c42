-- `segments::segment_ray` meets its contract: its body is the definition.
use Rattle.segments.specs.Segment.{segment_ray_of}
use mathlib.Core.Path.{refl}
use Rattle.segments.proofs.segment_ray.Goals as goal

pub returns : goal.returns
unfolding segment_ray_of
returns c = refl
