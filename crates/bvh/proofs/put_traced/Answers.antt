-- `bvh::put_traced` meets its contract: each part comes back in its place (`both_back`).
use mathlib.Core.Path.{sym, ap, ◌∙◌}
use mathlib.Core.List.{List, ◌++◌}
use native.Mathlib.Omega.{arith}
use Prim.Native.Nat.{◌*◌}
use lib.Ieee.{Float}
use lib.ListN.{length, drop}
use lib.Seq.{length-take-le, length_front}
use borrow.Rule.Slice.PartMut.{mid_len}
use Rattle.tree_build.specs.Areas.{box_at_of}
use Rattle.tree_trace.specs.Leaf.{corner_at_of, edges_at_of}
use Rattle.bvh.proofs.Parts.{both_back}
use Rattle.bvh.proofs.put_traced.Goals as goal

pub slice_bounds-pad_boxes-end : goal.slice_bounds-pad_boxes-end
slice_bounds-pad_boxes-end c = let q = c.requires.n_in_bounds in omega (arith, q.2)

pub slice_bounds-pad_boxes-end-2 : goal.slice_bounds-pad_boxes-end-2
slice_bounds-pad_boxes-end-2 c =
    let a = c.args in
    let q = c.requires.n_in_bounds in
    sym (length-take-le (12 * length a.leaf_order.now) a.tree.now (omega (arith, q.2)))

pub pad_boxes-requires : goal.pad_boxes-requires
pad_boxes-requires c =
    let a = c.args in
    let q = c.requires.n_in_bounds in
    let r = c.requires.count_in_bounds in
    let long = length-take-le (12 * length a.leaf_order.now) a.tree.now (omega (arith, q.2)) in
    (r.0, omega (arith, r.1, long))

pub put_rows-requires : goal.put_rows-requires
put_rows-requires c =
    let a = c.args in
    let q = c.requires.n_in_bounds in
    let m = length a.leaf_order.now in
    let whole = length_front a.tree.now c.pad_boxes.new.padded (12 * m) c.pad_boxes.auto.padded in
    let long = mid_len (12 * m) (22 * m) (c.pad_boxes.new.padded ++ drop (12 * m) a.tree.now) (omega (arith, q.2, whole)) in
    (q.0, q.1, omega (arith, long))

pub shape_of-tree : goal.shape_of-tree
shape_of-tree c =
    let a = c.args in
    let q = c.requires.n_in_bounds in
    let m = length a.leaf_order.now in
    (both_back (12 * m) (22 * m) a.tree.now c.pad_boxes.new.padded c.put_rows.new.leaves (omega arith) q.2 c.pad_boxes.auto.padded c.put_rows.auto.leaves).long

pub returns : goal.returns
returns c =
    let a = c.args in
    let q = c.requires.n_in_bounds in
    let m = length a.leaf_order.now in
    let b = both_back (12 * m) (22 * m) a.tree.now c.pad_boxes.new.padded c.put_rows.new.leaves (omega arith) q.2 c.pad_boxes.auto.padded c.put_rows.auto.leaves in record {
      by_index = λ i h. ap (λ (l : List Float). box_at_of l i) b.front ∙ c.pad_boxes.ensures i h;
      by_index_2 = λ k h. (ap (λ (l : List Float). corner_at_of l k) b.rest ∙ (c.put_rows.ensures k h).0, ap (λ (l : List Float). edges_at_of l k) b.rest ∙ (c.put_rows.ensures k h).1);
    }
