-- `vector::transform_point4x4` meets its contract: a row for each coordinate.
use Rattle.vector.specs.Transform.{transform_point_of}
use Rattle.vector.proofs.transform_point4x4.Goals as goal

pub returns : goal.returns
unfolding transform_point_of
returns c = rw (← c.row.ensures, ← c.row-2.ensures, ← c.row-3.ensures)
