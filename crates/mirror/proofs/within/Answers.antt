-- `mirror::within` meets its contract: what its calls promise, and its tests.
use Rattle.mirror.specs.Locate.{within_of}
use Rattle.mirror.proofs.within.Goals as goal

pub returns-then-x-low : goal.returns-then-x-low
unfolding within_of
returns-then-x-low c = rw c.if-x-low.true

pub returns-else-x-low : goal.returns-else-x-low
unfolding within_of
returns-else-x-low c = rw c.if-x-low.false
