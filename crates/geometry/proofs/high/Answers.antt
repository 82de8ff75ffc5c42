-- `geometry::high` meets its contract: each coordinate by the contract of `max`.
use Rattle.geometry.specs.Aabb.{high_of}
use Rattle.geometry.proofs.high.Goals as goal

pub returns : goal.returns
unfolding high_of
returns c = rw (← c.max.ensures, ← c.max-2.ensures, ← c.max-3.ensures)
