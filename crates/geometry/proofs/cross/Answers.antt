-- `geometry::cross` meets its contract: by the contracts of `sub3` and `cross3`.
use Rattle.geometry.specs.Triangle.{cross_of}
use Rattle.geometry.proofs.cross.Goals as goal

pub returns : goal.returns
unfolding cross_of
returns c = rw (← c.sub3.ensures, ← c.sub3-2.ensures, ← c.cross3.ensures)
