-- `tree_split::bounds` meets its contract: what is gathered so far is the box of the triangles so far.
use mathlib.Core.Path.{sym, ◌∙◌}
use native.Mathlib.Omega.{arith}
use Rattle.order.specs.Sort.{Below}
use Rattle.tree_split.specs.Split.{aabb_at_of}
use Rattle.tree_split.proofs.Laws as law
use Rattle.tree_split.proofs.bounds.Goals as goal

pub loop-tri-init : goal.loop-tri-init
loop-tri-init c = (omega arith, c.new_empty-acc.ensures ∙ sym (law.bounds_none (aabb_at_of c.args.extents.now) c.args.part.now))

pub aabb_at-requires : goal.aabb_at-requires
unfolding Below
aabb_at-requires c = let p = c.requires.n_in_bounds in let h = c.requires.below c.loop-tri.tri-index c.loop-tri-test.true in omega arith

pub loop-tri-preserved : goal.loop-tri-preserved
loop-tri-preserved c = (omega arith, rw (c.union-acc.ensures, c.aabb_at.ensures, c.loop-tri.invariant.1) (sym (law.bounds_step _ _ c.loop-tri.tri-index c.loop-tri-test.true)))

pub returns : goal.returns
returns c = c.loop-tri.invariant.1 ∙ law.bounds_all (aabb_at_of c.args.extents.now) c.args.part.now c.loop-tri.tri-index (omega arith)

pub new_empty-acc-requires : goal.new_empty-acc-requires
new_empty-acc-requires c = tt

pub union-acc-requires : goal.union-acc-requires
union-acc-requires c = tt
