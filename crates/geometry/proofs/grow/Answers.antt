-- `geometry::grow` meets its contract: by the contracts of `low` and `high`.
use Rattle.geometry.specs.Aabb.{grow_of}
use Rattle.geometry.proofs.grow.Goals as goal

pub returns : goal.returns
unfolding grow_of
returns c = rw (← c.low.ensures, ← c.high.ensures)
