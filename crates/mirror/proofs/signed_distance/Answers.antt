-- `mirror::signed_distance` meets its contract: what its calls promise, and its tests.
use Rattle.mirror.specs.Mirror.{signed_distance_of}
use Rattle.mirror.proofs.signed_distance.Goals as goal

pub returns : goal.returns
unfolding signed_distance_of
returns c is es = rw (← c.dot3.ensures)
