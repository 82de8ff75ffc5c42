-- `geometry::centroid` meets its contract: each coordinate by the contract of `third`.
use Rattle.geometry.specs.Triangle.{centroid_of}
use Rattle.geometry.proofs.centroid.Goals as goal

pub returns : goal.returns
unfolding centroid_of
returns c = rw (← c.third.ensures, ← c.third-2.ensures, ← c.third-3.ensures)
