-- `geometry::low` meets its contract: each coordinate by the contract of `min`.
use Rattle.geometry.specs.Aabb.{low_of}
use Rattle.geometry.proofs.low.Goals as goal

pub returns : goal.returns
unfolding low_of
returns c = rw (← c.min.ensures, ← c.min-2.ensures, ← c.min-3.ensures)
