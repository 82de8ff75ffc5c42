-- `geometry::from_corners` meets its contract: three turns of `grow` from the empty box, as the definition folds a list of three.
use Rattle.geometry.specs.Aabb.{from_corners_of}
use Rattle.geometry.proofs.from_corners.Goals as goal

pub returns : goal.returns
unfolding from_corners_of
returns c = rw (
  ← c.new_empty.ensures,
  ← c.grow.ensures,
  ← c.grow-2.ensures,
  ← c.grow-3.ensures,
)
