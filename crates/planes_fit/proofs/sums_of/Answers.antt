-- `planes_fit::sums_of` meets its contract: the patches from here on give what all give.
use mathlib.Core.Path.{◌∙◌, refl, sym}
use native.Mathlib.Omega.{arith}
use Rattle.laws.proofs.Lists.{fold_done, fold_step}
use Rattle.order.specs.Sort.{Below}
use Rattle.planes_fit.proofs.sums_of.Goals as goal

pub row_at-requires : goal.row_at-requires
unfolding Below
row_at-requires c = let p = c.requires in let b = p.below _ c.loop-patch-test.true in omega (arith, p.np_in_bounds, b)

pub loop-patch-preserved : goal.loop-patch-preserved
loop-patch-preserved c = rw (c.add_patch-s.ensures, c.row_at.ensures) (sym (fold_step _ _ _ _ c.loop-patch-test.true) ∙ c.loop-patch.invariant)

pub returns : goal.returns
returns c = sym (fold_done _ _ _ _ c.loop-patch-test.false) ∙ c.loop-patch.invariant

pub loop-patch-init : goal.loop-patch-init
loop-patch-init c = refl

pub add_patch-s-requires : goal.add_patch-s-requires
add_patch-s-requires c = tt
