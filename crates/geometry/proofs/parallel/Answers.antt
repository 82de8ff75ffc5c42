-- `geometry::parallel` meets its contract: by the contract of `abs`.
use Rattle.geometry.specs.Intersect.{parallel_of}
use Rattle.geometry.proofs.parallel.Goals as goal

pub returns : goal.returns
unfolding parallel_of
returns c = rw (← c.abs.ensures)
