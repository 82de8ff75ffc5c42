-- `mirror::mirror` meets its contract: what its calls promise, and its tests.
use Rattle.mirror.specs.Mirror.{mirror_of}
use Rattle.mirror.proofs.mirror.Goals as goal

pub returns : goal.returns
unfolding mirror_of
returns c is es = rw (← c.signed_distance-d.ensures is es)
