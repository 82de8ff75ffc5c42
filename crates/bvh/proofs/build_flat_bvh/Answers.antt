-- `bvh::build_flat_bvh` meets its contract: what a trace reads of the tree that was built (`traced`).
use mathlib.Core.Path.{refl}
use native.Mathlib.Omega.{arith}
use Prim.Native.Nat.{◌*◌, ◌≤◌}
use lib.ListN.{length}
use Rattle.order.proofs.Laws.{below_more}
use Rattle.bvh.proofs.Laws as law
use Rattle.bvh.proofs.build_flat_bvh.Goals as goal

pub build_tree-count-requires : goal.build_tree-count-requires
build_tree-count-requires c = c.requires.bvh_lent

pub shape_of-extents-then-count-eq0 : goal.shape_of-extents-then-count-eq0
shape_of-extents-then-count-eq0 c = c.build_tree-count.auto.extents

pub shape_of-keys-then-count-eq0 : goal.shape_of-keys-then-count-eq0
shape_of-keys-then-count-eq0 c = c.build_tree-count.auto.keys

pub shape_of-leaf_order-then-count-eq0 : goal.shape_of-leaf_order-then-count-eq0
shape_of-leaf_order-then-count-eq0 c = c.build_tree-count.auto.leaf_order

pub shape_of-words-then-count-eq0 : goal.shape_of-words-then-count-eq0
shape_of-words-then-count-eq0 c = c.build_tree-count.auto.words

pub shape_of-scratch-then-count-eq0 : goal.shape_of-scratch-then-count-eq0
shape_of-scratch-then-count-eq0 c = c.build_tree-count.auto.scratch

pub shape_of-areas-then-count-eq0 : goal.shape_of-areas-then-count-eq0
shape_of-areas-then-count-eq0 c = c.build_tree-count.auto.areas

pub shape_of-boxes-then-count-eq0 : goal.shape_of-boxes-then-count-eq0
shape_of-boxes-then-count-eq0 c = c.build_tree-count.auto.boxes

pub shape_of-nodes-then-count-eq0 : goal.shape_of-nodes-then-count-eq0
shape_of-nodes-then-count-eq0 c = c.build_tree-count.auto.nodes

pub returns-then-count-eq0 : goal.returns-then-count-eq0
returns-then-count-eq0 c =
    let same-length-2 = c.build_tree-count.auto.keys in
    let same-length-4 = c.build_tree-count.auto.words in
    let same_length = c.build_tree-count.auto.extents in
    let same-length-6 = c.build_tree-count.auto.areas in
    let same-length-5 = c.build_tree-count.auto.scratch in record {
      built = record {
        built = λ f. absurd (law.nothing_built _ _ _ _ _ _ _ _ c.build_tree-count.ensures c.if-count-eq0.true f);
        traced = λ f. absurd (law.nothing_built _ _ _ _ _ _ _ _ c.build_tree-count.ensures c.if-count-eq0.true f);
        none = λ _. refl;
      };
      rest = (same_length, same-length-2, same-length-4, same-length-5, same-length-6);
    }

pub put_traced-requires : goal.put_traced-requires
put_traced-requires c =
    let L = c.requires.bvh_lent in
    let w = law.some_built _ _ _ _ _ _ _ _ c.build_tree-count.ensures c.if-count-eq0.false in
    let size = w.size in
    let most = w.most in
    let q = c.requires.leaf_order_in_bounds in record {
      n_in_bounds = (L.wide, below_more _ _ _ L.fewer w.inside, omega arith);
      count_in_bounds = (w.boxes_room, omega arith);
    }

pub shape_of-extents : goal.shape_of-extents
shape_of-extents c = c.build_tree-count.auto.extents

pub shape_of-keys : goal.shape_of-keys
shape_of-keys c = c.build_tree-count.auto.keys

pub shape_of-leaf_order : goal.shape_of-leaf_order
shape_of-leaf_order c = c.build_tree-count.auto.leaf_order

pub shape_of-words : goal.shape_of-words
shape_of-words c = c.build_tree-count.auto.words

pub shape_of-scratch : goal.shape_of-scratch
shape_of-scratch c = c.build_tree-count.auto.scratch

pub shape_of-areas : goal.shape_of-areas
shape_of-areas c = c.build_tree-count.auto.areas

pub shape_of-boxes : goal.shape_of-boxes
shape_of-boxes c = c.build_tree-count.auto.boxes

pub shape_of-nodes : goal.shape_of-nodes
shape_of-nodes c = c.build_tree-count.auto.nodes

pub shape_of-tree : goal.shape_of-tree
shape_of-tree c = c.put_traced.auto.tree

pub returns : goal.returns
returns c =
    let same-length-12 = c.build_tree-count.auto.words in
    let same-length-9 = c.build_tree-count.auto.extents in
    let same-length-14 = c.build_tree-count.auto.areas in
    let same-length-13 = c.build_tree-count.auto.scratch in
    let same-length-10 = c.build_tree-count.auto.keys in
    let a = c.args in
    let m = length a.leaf_order.now in
    let q = c.requires.leaf_order_in_bounds in
    let w = law.some_built _ _ _ _ _ _ _ _ c.build_tree-count.ensures c.if-count-eq0.false in
    let t = c.put_traced.new.tree in
    let room : 22 * m ≤ length t = let e = c.put_traced.auto.tree in omega arith in record {
      built = record {
        built = λ _. w;
        traced = λ _. law.traced_in a.triangles.now a.handles.now a.n m c.build_tree-count.new.boxes c.build_tree-count.new.nodes c.build_tree-count.new.leaf_order t c.build_tree-count.result
            w room c.put_traced.ensures.by_index c.put_traced.ensures.by_index_2;
        none = λ f. c.build_tree-count.ensures.none f;
      };
      rest = (same-length-9, same-length-10, same-length-12, same-length-13, same-length-14);
    }
