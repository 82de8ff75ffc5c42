-- `planes_buried::renumbered` meets its contract, by its test.
use mathlib.Core.Path.{sym}
use borrow.Author.Tests.{eq-eqb, ne_eqb}
use Rattle.planes_patches.specs.Rows.{none_of}
use Rattle.planes_buried.specs.Passes.{renumbered_of}
use Rattle.planes_buried.proofs.renumbered.Goals as goal

pub returns-then-p-eq-NONE : goal.returns-then-p-eq-NONE
unfolding renumbered_of
returns-then-p-eq-NONE c = sym (rw (eq-eqb c.args.p none_of c.if-p-eq-NONE.true))

pub returns : goal.returns
unfolding renumbered_of
returns c = sym (rw (ne_eqb c.args.p none_of c.if-p-eq-NONE.false))
