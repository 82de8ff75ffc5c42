-- `packet::is_in_range` meets its contract: each return by the tests on the way.
use borrow.Author.Tests.{le-leb, lt-leb}
use Rattle.packet.proofs.Areas.{range_at}
use Rattle.packet.proofs.is_in_range.Goals as goal

pub returns-then-n-ge1 : goal.returns-then-n-ge1
returns-then-n-ge1 c =
    rw (range_at c.args.images c.args.at c.args.taps.now, le-leb _ _ c.if-o-ge1.true, le-leb _ _ c.if-o-le-MOST_ORDER.true, le-leb _ _ c.if-n-ge1.true)

pub returns-else-n-ge1 : goal.returns-else-n-ge1
returns-else-n-ge1 c =
    rw (range_at c.args.images c.args.at c.args.taps.now, le-leb _ _ c.if-o-ge1.true, le-leb _ _ c.if-o-le-MOST_ORDER.true, lt-leb _ _ c.if-n-ge1.false)

pub returns-else-o-le-MOST_ORDER : goal.returns-else-o-le-MOST_ORDER
returns-else-o-le-MOST_ORDER c =
    rw (range_at c.args.images c.args.at c.args.taps.now, le-leb _ _ c.if-o-ge1.true, lt-leb _ _ c.if-o-le-MOST_ORDER.false)

pub returns-else-o-ge1 : goal.returns-else-o-ge1
returns-else-o-ge1 c =
    rw (range_at c.args.images c.args.at c.args.taps.now, lt-leb _ _ c.if-o-ge1.false)
