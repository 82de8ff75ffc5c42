-- `packet::has_valid_floats` meets its contract: each return by the tests on the way.
use Rattle.packet.proofs.Areas.{floats_at}
use Rattle.packet.proofs.has_valid_floats.Goals as goal

pub returns-then-is_positive : goal.returns-then-is_positive
returns-then-is_positive c =
    rw (floats_at c.args.bits c.args.at c.args.taps.now, ← c.is_finite.ensures, c.if-is_finite.true, ← c.is_finite-then-is_finite.ensures, c.if-is_finite-2.true, ← c.is_finite-then-is_finite-2.ensures, c.if-is_finite-3.true, ← c.is_positive.ensures, c.if-is_positive.true, c.are_valid_gains.ensures)

pub returns-else-is_positive : goal.returns-else-is_positive
returns-else-is_positive c =
    rw (floats_at c.args.bits c.args.at c.args.taps.now, ← c.is_finite.ensures, c.if-is_finite.true, ← c.is_finite-then-is_finite.ensures, c.if-is_finite-2.true, ← c.is_finite-then-is_finite-2.ensures, c.if-is_finite-3.true, ← c.is_positive.ensures, c.if-is_positive.false)

pub returns-else-is_finite-3 : goal.returns-else-is_finite-3
returns-else-is_finite-3 c =
    rw (floats_at c.args.bits c.args.at c.args.taps.now, ← c.is_finite.ensures, c.if-is_finite.true, ← c.is_finite-then-is_finite.ensures, c.if-is_finite-2.true, ← c.is_finite-then-is_finite-2.ensures, c.if-is_finite-3.false)

pub returns-else-is_finite-2 : goal.returns-else-is_finite-2
returns-else-is_finite-2 c =
    rw (floats_at c.args.bits c.args.at c.args.taps.now, ← c.is_finite.ensures, c.if-is_finite.true, ← c.is_finite-then-is_finite.ensures, c.if-is_finite-2.false)

pub returns-else-is_finite : goal.returns-else-is_finite
returns-else-is_finite c =
    rw (floats_at c.args.bits c.args.at c.args.taps.now, ← c.is_finite.ensures, c.if-is_finite.false)
