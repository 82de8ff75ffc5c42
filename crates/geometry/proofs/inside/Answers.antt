-- `geometry::inside` meets its contract: by its three tests.
use Rattle.geometry.specs.Contains.{inside_of}
use Rattle.geometry.proofs.inside.Goals as goal

pub returns-then-v : goal.returns-then-v
unfolding inside_of
returns-then-v c = rw (c.if-u.true, c.if-v.true)

pub returns-else-v : goal.returns-else-v
unfolding inside_of
returns-else-v c = rw (c.if-u.true, c.if-v.false)

pub returns-else-u : goal.returns-else-u
unfolding inside_of
returns-else-u c = rw c.if-u.false
