-- `mirror::edge_distance` meets its contract: what its calls promise, and its tests.
use Rattle.mirror.specs.Rows.{edge_in}
use Rattle.mirror.proofs.edge_distance.Goals as goal

pub returns : goal.returns
unfolding edge_in
returns c = rw (
  ← c.vec_in-a.ensures,
  ← c.vec_in-b.ensures,
  ← c.point_segment_distance.ensures,
)
