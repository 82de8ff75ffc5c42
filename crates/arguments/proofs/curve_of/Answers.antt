-- `arguments::curve_of` meets its contract: by its one test.
use borrow.Author.Tests.{eq-eqb, ne_eqb}
use Rattle.arguments.specs.Model.{curve_of_number}
use Rattle.arguments.proofs.curve_of.Goals as goal

pub returns-then-number-eq0 : goal.returns-then-number-eq0
unfolding curve_of_number
returns-then-number-eq0 c = rw (eq-eqb _ _ c.if-number-eq0.true)

pub returns : goal.returns
unfolding curve_of_number
returns c = rw (ne_eqb _ _ c.if-number-eq0.false)
