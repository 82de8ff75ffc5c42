-- `tree_build::split_node` meets its contract: a leaf in two cases, else what `split_part` says (`chosen_split`).
use native.Mathlib.Omega.{arith}
use Rattle.tree_split.specs.Split.{aabb_at_of, centroid_at_of}
use Rattle.tree_build.proofs.Grows as law
use Rattle.tree_build.proofs.split_node.Goals as goal

pub returns-then-levels-eq0 : goal.returns-then-levels-eq0
returns-then-levels-eq0 c =
    let a = c.args in
    let L = c.requires.listed in
    law.chosen_zero (aabb_at_of a.extents.now) (centroid_at_of a.extents.now) a.levels a.n a.lo a.hi a.leaf_order.now c.if-levels-eq0.true L.some L.inside

pub overflow_sub-hi : goal.overflow_sub-hi
overflow_sub-hi c = let L = c.requires.listed in let some = L.some in omega arith

pub returns-then-hi-lo-le4 : goal.returns-then-hi-lo-le4
returns-then-hi-lo-le4 c =
    let a = c.args in
    let L = c.requires.listed in
    law.chosen_few (aabb_at_of a.extents.now) (centroid_at_of a.extents.now) a.levels a.n a.lo a.hi a.leaf_order.now c.if-levels-eq0.false c.if-hi-lo-le4.true L.within L.some L.inside

pub split_part-requires : goal.split_part-requires
split_part-requires c = record {
  listed = c.requires.listed;
  sorts = c.requires.sorts;
}

pub shape_of-leaf_order : goal.shape_of-leaf_order
shape_of-leaf_order c = c.split_part.auto.leaf_order

pub shape_of-words : goal.shape_of-words
shape_of-words c = c.split_part.auto.words

pub shape_of-scratch : goal.shape_of-scratch
shape_of-scratch c = c.split_part.auto.scratch

pub shape_of-areas : goal.shape_of-areas
shape_of-areas c = c.split_part.auto.areas

pub returns : goal.returns
returns c =
    let a = c.args in
    let L = c.requires.listed in
    law.chosen_split (aabb_at_of a.extents.now) (centroid_at_of a.extents.now) a.levels a.n a.lo a.hi a.leaf_order.now c.if-levels-eq0.false
    c.if-hi-lo-le4.false L.within c.split_part.result c.split_part.new.leaf_order c.split_part.ensures
