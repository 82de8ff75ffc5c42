-- `numbering::one_to` meets its contract, by its two tests.
use borrow.Author.Tests.{le-leb, lt-leb}
use Rattle.numbering.specs.Walls.{is_one_to}
use Rattle.numbering.proofs.one_to.Goals as goal

pub returns-then-n-ge1 : goal.returns-then-n-ge1
unfolding is_one_to
returns-then-n-ge1 c = rw (le-leb 1 c.args.n c.if-n-ge1.true)

pub returns-else-n-ge1 : goal.returns-else-n-ge1
unfolding is_one_to
returns-else-n-ge1 c = rw (lt-leb 1 c.args.n c.if-n-ge1.false)
