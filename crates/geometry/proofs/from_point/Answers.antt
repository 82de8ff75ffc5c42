-- `geometry::from_point` meets its contract: one turn of `grow` from the empty box, as the definition folds a list of one.
use Rattle.geometry.specs.Aabb.{from_point_of}
use Rattle.geometry.proofs.from_point.Goals as goal

pub returns : goal.returns
unfolding from_point_of
returns c = rw (← c.new_empty.ensures, ← c.grow.ensures)
