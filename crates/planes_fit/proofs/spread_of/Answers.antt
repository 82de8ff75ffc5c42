-- `planes_fit::spread_of` meets its contract: the triangles from here on give what all give.
use mathlib.Core.Path.{◌∙◌, refl, sym}
use Rattle.laws.proofs.Lists.{fold_done, fold_step}
use Rattle.order.specs.Sort.{Below}
use Rattle.planes_fit.specs.Fit.{spread_of}
use Rattle.planes_fit.proofs.spread_of.Goals as goal

pub triangle_at-requires : goal.triangle_at-requires
unfolding Below
triangle_at-requires c = let p = c.requires in (p.n_in_bounds, p.n_in_bounds_2, p.below _ c.loop-t-test.true)

pub loop-t-preserved : goal.loop-t-preserved
loop-t-preserved c = rw (c.reach-s.ensures, c.triangle_at.ensures) (sym (fold_step _ _ _ _ c.loop-t-test.true) ∙ c.loop-t.invariant)

pub returns : goal.returns
unfolding spread_of
returns c = sym (fold_done _ _ _ _ c.loop-t-test.false) ∙ c.loop-t.invariant

pub loop-t-init : goal.loop-t-init
loop-t-init c = refl

pub reach-s-requires : goal.reach-s-requires
reach-s-requires c = tt
