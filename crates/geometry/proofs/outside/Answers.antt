-- `geometry::outside` meets its contract: its two tests are those of the definition.
use Rattle.geometry.specs.Intersect.{outside_of}
use Rattle.geometry.proofs.outside.Goals as goal

pub returns-then-a : goal.returns-then-a
unfolding outside_of
returns-then-a c = rw c.if-a.true

pub returns-else-a : goal.returns-else-a
unfolding outside_of
returns-else-a c = rw c.if-a.false
