-- `packet::gain_bit` meets its contract: by the two ways of the test.
use borrow.Author.Tests.{eq-eqb, ne_eqb}
use native.Mathlib.Omega.{arith}
use Rattle.packet.proofs.gain_bit.Goals as goal

pub returns-then-g-eq0 : goal.returns-then-g-eq0
returns-then-g-eq0 c = (simp (eq-eqb _ _ c.if-g-eq0.true), omega arith)

pub returns-else-g-eq0 : goal.returns-else-g-eq0
returns-else-g-eq0 c = (simp (ne_eqb _ _ c.if-g-eq0.false), omega arith)
