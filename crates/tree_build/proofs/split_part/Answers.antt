-- `tree_build::split_part` meets its contract: the part that is lent comes back sorted, in its place (`back_split`).
use Prim.Native.Nat.{◌-◌}
use native.Mathlib.Omega.{arith}
use lib.ListN.{drop}
use Rattle.order.proofs.Laws.{below_take, below_drop}
use Rattle.tree_split.specs.Split.{aabb_at_of, centroid_at_of}
use Rattle.tree_build.proofs.Stores.{part_length}
use Rattle.tree_build.proofs.Grows as law
use borrow.Rule.Slice.PartMut.{same_len_mid}
use Rattle.tree_build.proofs.split_part.Goals as goal

pub offset_bounds-leaf_order-lo : goal.offset_bounds-leaf_order-lo
offset_bounds-leaf_order-lo c = let L = c.requires.listed in let some = L.some in let within = L.within in let size = L.size in let few = L.few in omega arith

pub slice_bounds-split-count : goal.slice_bounds-split-count
slice_bounds-split-count c = let L = c.requires.listed in let some = L.some in let within = L.within in let size = L.size in let few = L.few in omega arith

pub slice_bounds-split-start : goal.slice_bounds-split-start
slice_bounds-split-start c = let L = c.requires.listed in let some = L.some in let within = L.within in let size = L.size in let few = L.few in omega arith

pub slice_bounds-split-end : goal.slice_bounds-split-end
slice_bounds-split-end c = let L = c.requires.listed in let some = L.some in let within = L.within in let size = L.size in let few = L.few in omega arith

pub split-requires : goal.split-requires
split-requires c =
    let a = c.args in
    let L = c.requires.listed in
    let S = c.requires.sorts in
    let some = L.some in let within = L.within in let size = L.size in let few = L.few in
    let w = S.words_room in let s = S.scratch_room in let r = S.areas_room in
    let l = part_length a.lo a.hi a.leaf_order.now (omega arith) L.within in
    record {
      wide = L.wide;
      inside = below_take a.n (a.hi - a.lo) (drop a.lo a.leaf_order.now) (below_drop a.n a.lo a.leaf_order.now L.inside);
      some = omega arith;
      few = omega arith;
      words_room = omega arith;
      scratch_room = omega arith;
      areas_room = omega arith;
      keyed = S.keyed;
    }

pub shape_of-leaf_order : goal.shape_of-leaf_order
shape_of-leaf_order c =
    let a = c.args in same_len_mid a.lo (a.hi - a.lo) a.leaf_order.now c.split.new.part c.split.auto.part

pub shape_of-words : goal.shape_of-words
shape_of-words c = c.split.auto.words

pub shape_of-scratch : goal.shape_of-scratch
shape_of-scratch c = c.split.auto.scratch

pub shape_of-areas : goal.shape_of-areas
shape_of-areas c = c.split.auto.areas

pub returns : goal.returns
returns c =
    let a = c.args in
    let L = c.requires.listed in
    let some = L.some in
    law.back_split a.lo a.hi a.leaf_order.now c.split.new.part (omega arith) L.within c.split.auto.part
    (aabb_at_of a.extents.now) (centroid_at_of a.extents.now) a.n c.split.result L.inside c.split.ensures.divides.0 c.split.ensures.divides.1 c.split.ensures.divides.2
