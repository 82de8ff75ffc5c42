-- `scene_bvh::scene_bvh` meets its contract: `lent` for what the build asks, `returned` for what the areas then read as.
use mathlib.Core.Path.{sym}
use native.Mathlib.Omega.{arith}
use lib.Seq.{length-take-le, length_front}
use Rattle.scene_bvh.proofs.Rooms.{lent, room, returned}
use Rattle.scene_bvh.proofs.scene_bvh.Goals as goal

pub slice_bounds-build_flat_bvh-end : goal.slice_bounds-build_flat_bvh-end
slice_bounds-build_flat_bvh-end c = c.requires.perm_room

pub slice_bounds-build_flat_bvh-end-2 : goal.slice_bounds-build_flat_bvh-end-2
slice_bounds-build_flat_bvh-end-2 c =
    sym (length-take-le c.args.m c.args.leaf_order.now c.requires.perm_room)

pub build_flat_bvh-requires : goal.build_flat_bvh-requires
build_flat_bvh-requires c =
    let a = c.args in
    let R = c.requires in record {
      bvh_lent = lent a.triangles.now a.handles.now a.n a.m a.extents.now a.keys.now a.leaf_order.now a.words.now a.scratch.now a.areas.now a.boxes.now a.nodes.now a.tree.now R _ (omega (arith, R.fewer)) (omega (arith, R.fewer));
      leaf_order_in_bounds = room a.triangles.now a.handles.now a.n a.m a.extents.now a.keys.now
          a.leaf_order.now a.words.now a.scratch.now a.areas.now a.boxes.now a.nodes.now a.tree.now R;
    }

pub shape_of-extents : goal.shape_of-extents
shape_of-extents c = c.build_flat_bvh.auto.extents

pub shape_of-keys : goal.shape_of-keys
shape_of-keys c = c.build_flat_bvh.auto.keys

pub shape_of-leaf_order : goal.shape_of-leaf_order
shape_of-leaf_order c =
    length_front c.args.leaf_order.now c.build_flat_bvh.new.leaf_order c.args.m c.build_flat_bvh.auto.leaf_order

pub shape_of-words : goal.shape_of-words
shape_of-words c = c.build_flat_bvh.auto.words

pub shape_of-scratch : goal.shape_of-scratch
shape_of-scratch c = c.build_flat_bvh.auto.scratch

pub shape_of-areas : goal.shape_of-areas
shape_of-areas c = c.build_flat_bvh.auto.areas

pub shape_of-boxes : goal.shape_of-boxes
shape_of-boxes c = c.build_flat_bvh.auto.boxes

pub shape_of-nodes : goal.shape_of-nodes
shape_of-nodes c = c.build_flat_bvh.auto.nodes

pub shape_of-tree : goal.shape_of-tree
shape_of-tree c = c.build_flat_bvh.auto.tree

pub returns : goal.returns
returns c =
    let same-length-6 = c.build_flat_bvh.auto.areas in
    let same-length-7 = c.build_flat_bvh.auto.boxes in
    let same-length-5 = c.build_flat_bvh.auto.scratch in
    let same-length-4 = c.build_flat_bvh.auto.words in
    let same-length-2 = c.build_flat_bvh.auto.keys in
    let same_length = c.build_flat_bvh.auto.extents in
    let a = c.args in
    let R = c.requires in record {
      stands = returned a.triangles.now a.handles.now a.n a.m a.extents.now a.keys.now a.leaf_order.now a.words.now a.scratch.now a.areas.now a.boxes.now a.nodes.now a.tree.now R c.build_flat_bvh.new.boxes c.build_flat_bvh.new.nodes c.build_flat_bvh.new.leaf_order c.build_flat_bvh.new.tree
          c.build_flat_bvh.result c.build_flat_bvh.auto.leaf_order c.build_flat_bvh.ensures.built;
      rest = (same_length, same-length-2, same-length-4, same-length-5, same-length-6, same-length-7);
    }
