-- `geometry::within` meets its contract: by its two tests.
use Rattle.geometry.specs.Intersect.{within_of}
use Rattle.geometry.proofs.within.Goals as goal

pub returns-then-t-tmax : goal.returns-then-t-tmax
unfolding within_of
returns-then-t-tmax c = rw (c.if-tmin-t.true, c.if-t-tmax.true)

pub returns-else-t-tmax : goal.returns-else-t-tmax
unfolding within_of
returns-else-t-tmax c = rw (c.if-tmin-t.true, c.if-t-tmax.false)

pub returns-else-tmin-t : goal.returns-else-tmin-t
unfolding within_of
returns-else-tmin-t c = rw c.if-tmin-t.false
