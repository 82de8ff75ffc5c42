-- `geometry::union` meets its contract: by the contracts of `low` and `high`.
use Rattle.geometry.specs.Aabb.{union_of}
use Rattle.geometry.proofs.union.Goals as goal

pub returns : goal.returns
unfolding union_of
returns c = rw (← c.low.ensures, ← c.high.ensures)
