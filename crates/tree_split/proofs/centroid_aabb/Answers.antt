-- `tree_split::centroid_aabb` meets its contract: what is gathered so far is the box of the centroids so far.
use mathlib.Core.Path.{sym, ◌∙◌}
use native.Mathlib.Omega.{arith}
use Rattle.order.specs.Sort.{Below}
use Rattle.geometry.specs.Aabb.{from_point_of}
use Rattle.tree_split.specs.Split.{centroid_at_of}
use Rattle.tree_split.proofs.Laws as law
use Rattle.tree_split.proofs.centroid_aabb.Goals as goal

pub loop-tri-init : goal.loop-tri-init
loop-tri-init c = (omega arith, c.new_empty-acc.ensures ∙ sym (law.bounds_none (λ j. from_point_of (centroid_at_of c.args.extents.now j)) c.args.part.now))

pub centroid_at-requires : goal.centroid_at-requires
unfolding Below
centroid_at-requires c = let p = c.requires.n_in_bounds in let h = c.requires.below c.loop-tri.tri-index c.loop-tri-test.true in omega arith

pub loop-tri-preserved : goal.loop-tri-preserved
loop-tri-preserved c = (omega arith, rw (c.union-acc.ensures, c.from_point.ensures, c.centroid_at.ensures, c.loop-tri.invariant.1) (sym (law.bounds_step _ _ c.loop-tri.tri-index c.loop-tri-test.true)))

pub returns : goal.returns
returns c = c.loop-tri.invariant.1 ∙ law.bounds_all (λ j. from_point_of (centroid_at_of c.args.extents.now j)) c.args.part.now c.loop-tri.tri-index (omega arith)

pub new_empty-acc-requires : goal.new_empty-acc-requires
new_empty-acc-requires c = tt

pub from_point-requires : goal.from_point-requires
from_point-requires c = tt

pub union-acc-requires : goal.union-acc-requires
union-acc-requires c = tt
