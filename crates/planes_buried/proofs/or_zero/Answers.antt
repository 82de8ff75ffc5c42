-- `planes_buried::or_zero` meets its contract, by its test.
use mathlib.Core.Path.{sym}
use borrow.Author.Tests.{eq-eqb, ne_eqb}
use Rattle.planes_patches.specs.Rows.{none_of}
use Rattle.planes_buried.specs.Passes.{or_zero}
use Rattle.planes_buried.proofs.or_zero.Goals as goal

pub returns-then-i-eq-NONE : goal.returns-then-i-eq-NONE
unfolding or_zero
returns-then-i-eq-NONE c = sym (rw (eq-eqb c.args.i none_of c.if-i-eq-NONE.true))

pub returns : goal.returns
unfolding or_zero
returns c = sym (rw (ne_eqb c.args.i none_of c.if-i-eq-NONE.false))
