-- `cost::within` meets its contract: two tests.
use borrow.Author.Tests.{le-leb, lt-leb}
use Rattle.cost.specs.Cost.{within}
use Rattle.cost.proofs.within.Goals as goal

pub returns-then-x-lt1 : goal.returns-then-x-lt1
unfolding within
returns-then-x-lt1 c = rw (lt-leb 1 c.args.x c.if-x-lt1.true)

pub returns : goal.returns
unfolding within
returns c = rw (le-leb 1 c.args.x c.if-x-lt1.false)
