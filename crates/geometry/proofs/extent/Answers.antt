-- `geometry::extent` meets its contract: by the contract of `max`.
use Rattle.geometry.specs.Aabb.{extent_of}
use Rattle.geometry.proofs.extent.Goals as goal

pub returns : goal.returns
unfolding extent_of
returns c = rw (← c.max.ensures)
