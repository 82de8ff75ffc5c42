-- `packet::write_gain` meets its contract: by the two ways of the test.
use borrow.Author.Tests.{eq-eqb, ne_eqb}
use native.Mathlib.Omega.{arith}
use Rattle.packet.proofs.write_gain.Goals as goal

pub returns-then-m-eq1 : goal.returns-then-m-eq1
returns-then-m-eq1 c =
    (omega arith, simp (eq-eqb _ _ c.if-m-eq1.true) c.write_word.ensures)

pub returns : goal.returns
returns c = (omega (arith, c.if-m-eq1.false), simp (ne_eqb _ _ c.if-m-eq1.false))
