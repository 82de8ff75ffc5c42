-- `packet::is_positive` meets its contract: each return by the tests on the way.
use borrow.Author.Tests.{lt-ltb, le-ltb}
use Rattle.packet.proofs.is_positive.Goals as goal

pub returns-then-b-gt0 : goal.returns-then-b-gt0
returns-then-b-gt0 c = simp (lt-ltb _ _ c.if-b-gt0.true)

pub returns-else-b-gt0 : goal.returns-else-b-gt0
returns-else-b-gt0 c = simp (le-ltb _ _ c.if-b-gt0.false)
