-- `planes_fit::name_group` meets its contract: the patches so far have the number.
use native.Mathlib.Omega.{arith}
use Rattle.order.specs.Sort.{Below}
use Rattle.planes_fit.proofs.Naming.{named_all, named_more, named_none}
use Rattle.planes_fit.proofs.name_group.Goals as goal

pub loop-patch-init : goal.loop-patch-init
loop-patch-init c = named_none _ _ _

pub offset_bounds-group_of-p : goal.offset_bounds-group_of-p
unfolding Below
offset_bounds-group_of-p c = omega (arith, c.well_formed, c.requires _ c.loop-patch-test.true, c.loop-patch.invariant.len)

pub bounds-group_of-p : goal.bounds-group_of-p
unfolding Below
bounds-group_of-p c = omega (arith, c.requires _ c.loop-patch-test.true, c.loop-patch.invariant.len)

pub loop-patch-preserved : goal.loop-patch-preserved
loop-patch-preserved c = named_more _ _ _ _ _ c.loop-patch.invariant c.loop-patch-test.true c.requires

pub shape_of-group_of : goal.shape_of-group_of
shape_of-group_of c = c.loop-patch.invariant.len

pub returns : goal.returns
returns c = named_all _ _ _ _ _ c.loop-patch.invariant c.loop-patch-test.false
