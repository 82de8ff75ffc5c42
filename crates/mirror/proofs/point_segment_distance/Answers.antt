-- `mirror::point_segment_distance` meets its contract: what its calls promise, and its tests.
use Rattle.mirror.specs.Border.{point_segment_distance_of}
use Rattle.mirror.proofs.point_segment_distance.Goals as goal

pub returns : goal.returns
unfolding point_segment_distance_of
returns c = rw (
  ← c.sub3-ab.ensures,
  ← c.nearest-t.ensures,
  ← c.along.ensures,
  ← c.distance3.ensures,
)
