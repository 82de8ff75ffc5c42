-- `geometry::edges_of` meets its contract: by the contracts of `sub3`, `dot3` and `sqrt`.
use Rattle.geometry.specs.Intersect.{edges_of_corners}
use Rattle.geometry.proofs.edges_of.Goals as goal

pub returns : goal.returns
unfolding edges_of_corners
returns c = rw (
  ← c.sub3-edge1.ensures,
  ← c.sub3-edge2.ensures,
  ← c.dot3.ensures,
  ← c.dot3-2.ensures,
  ← c.sqrt-scale.ensures,
)
