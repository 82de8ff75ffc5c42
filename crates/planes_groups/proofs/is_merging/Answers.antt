-- `planes_groups::is_merging` meets its contract: by the three tests.
use Rattle.planes_groups.proofs.is_merging.Goals as goal

pub returns-then-most : goal.returns-then-most
returns-then-most c = rw (c.if-on.true, c.if-most.true)

pub returns-then-on : goal.returns-then-on
returns-then-on c = rw (c.if-on.true, c.if-most.false)

pub returns : goal.returns
returns c = rw c.if-on.false
