-- `packet::read_gain` meets its contract: by the two ways of the test.
use borrow.Author.Tests.{eq-eqb, ne_eqb}
use Rattle.packet.proofs.read_gain.Goals as goal

pub returns-then-m-eq1 : goal.returns-then-m-eq1
returns-then-m-eq1 c = simp (eq-eqb _ _ c.if-m-eq1.true) c.read_word.ensures

pub returns : goal.returns
returns c = simp (ne_eqb _ _ c.if-m-eq1.false)
