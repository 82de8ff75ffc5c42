-- `packet::is_valid_gain` meets its contract: each return by the tests on the way.
use Rattle.packet.proofs.is_valid_gain.Goals as goal

pub returns-else-not-m : goal.returns-else-not-m
returns-else-not-m c =
    rw (← c.is_finite.ensures, c.if-is_finite.true, c.if-not-m.false, c.is_positive.ensures)

pub returns-else-is_finite : goal.returns-else-is_finite
returns-else-is_finite c = rw (← c.is_finite.ensures, c.if-is_finite.false)
