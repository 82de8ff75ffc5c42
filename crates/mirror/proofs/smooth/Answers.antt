-- `mirror::smooth` meets its contract: what its calls promise, and its tests.
use Rattle.mirror.specs.Border.{smooth_of}
use Rattle.mirror.proofs.smooth.Goals as goal

pub returns : goal.returns
unfolding smooth_of
returns c = rw (← c.clamp-s.ensures)
