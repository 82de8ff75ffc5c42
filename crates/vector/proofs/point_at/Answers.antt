-- `vector::point_at` meets its contract: a product and then a sum, by the contracts of `scale3` and `add3`.
use Rattle.vector.specs.Ray.{point_at_of}
use Rattle.vector.proofs.point_at.Goals as goal

pub scale3-requires : goal.scale3-requires
unfolding point_at_of
scale3-requires c = tt

pub add3-requires : goal.add3-requires
unfolding point_at_of
add3-requires c = tt

pub returns : goal.returns
unfolding point_at_of
returns c = rw (← c.scale3.ensures, ← c.add3.ensures)
