-- `scene_planes::build_scene` meets its contract: the tree that stands is that of the scene's triangles, and the planes are built over it.
use mathlib.Core.Path.{sym, ◌∙◌}
use lib.ListN.{length, take, drop}
use lib.Seq.{length-take-le}
use Prim.Native.Nat.{◌*◌, ◌-◌}
use native.Mathlib.Omega.{arith}
use Rattle.placing.specs.Corners.{triangles}
use Rattle.bvh.specs.Bvh.{rows_in}
use Rattle.scene_bvh.proofs.Asked.{scene_tree_from_zero}
use Rattle.scene_planes.proofs.Planes.{planes_are}
use Rattle.scene_planes.proofs.build_scene.Goals as goal

pub scene_bvh-nodes_count-requires : goal.scene_bvh-nodes_count-requires
scene_bvh-nodes_count-requires c = let h = c.requires in let t = h.lent in let q = h.for_tree in let p = h.for_planes in
    record {
      wide = t.columns;
      named = t.named;
      some = h.some;
      fewer = t.some;
      few = omega (arith, t.few, t.some);
      extents_room = omega (arith, p.plane_floats_room, t.some);
      keys_room = omega (arith, p.keys_room, t.some);
      perm_room = omega (arith, q.leaf_order_room, t.some);
      words_room = omega (arith, p.words_room, t.some);
      scratch_room = omega (arith, p.scratch_room, t.some);
      areas_room = omega (arith, p.plane_edges_room, t.some);
      boxes_room = omega (arith, p.floats_room, t.some);
      nodes_room = omega (arith, q.nodes_room, t.some);
      tree_room = omega (arith, q.tree_room, t.some);
    }

pub overflow_mul-from : goal.overflow_mul-from
overflow_mul-from c = let t = c.requires.lent in let few = t.few in let some = t.some in omega arith

pub overflow_mul-to : goal.overflow_mul-to
overflow_mul-to c = let t = c.requires.lent in let few = t.few in let some = t.some in omega arith

pub slice_bounds-bvh-count : goal.slice_bounds-bvh-count
slice_bounds-bvh-count c = let h = c.requires in let t = h.lent in let few = t.few in let some = t.some in let room = h.for_tree.tree_room in let long = c.scene_bvh-nodes_count.auto.tree in omega arith

pub slice_bounds-bvh-start : goal.slice_bounds-bvh-start
slice_bounds-bvh-start c = let h = c.requires in let t = h.lent in let few = t.few in let some = t.some in let room = h.for_tree.tree_room in let long = c.scene_bvh-nodes_count.auto.tree in omega arith

pub slice_bounds-bvh-end : goal.slice_bounds-bvh-end
slice_bounds-bvh-end c = let h = c.requires in let t = h.lent in let few = t.few in let some = t.some in let room = h.for_tree.tree_room in let long = c.scene_bvh-nodes_count.auto.tree in omega arith

pub slice_bounds-bvh-end-2 : goal.slice_bounds-bvh-end-2
slice_bounds-bvh-end-2 c = let h = c.requires in omega (arith, c.scene_bvh-nodes_count.auto.leaf_order, h.for_tree.leaf_order_room, h.lent.some)

pub slice_bounds-bvh-end-3 : goal.slice_bounds-bvh-end-3
slice_bounds-bvh-end-3 c =
    let h = c.requires in sym (length-take-le c.args.m c.scene_bvh-nodes_count.new.leaf_order
    (omega (arith, c.scene_bvh-nodes_count.auto.leaf_order, h.for_tree.leaf_order_room, h.lent.some)))

pub offset_bounds-tree-from : goal.offset_bounds-tree-from
offset_bounds-tree-from c = let t = c.requires.lent in let few = t.few in let some = t.some in omega arith

pub slice_bounds-bvh-count-2 : goal.slice_bounds-bvh-count-2
slice_bounds-bvh-count-2 c = let h = c.requires in let t = h.lent in let few = t.few in let some = t.some in let room = h.for_tree.tree_room in let long = c.scene_bvh-nodes_count.auto.tree in omega arith

pub slice_bounds-bvh-start-2 : goal.slice_bounds-bvh-start-2
slice_bounds-bvh-start-2 c = let h = c.requires in let t = h.lent in let few = t.few in let some = t.some in let room = h.for_tree.tree_room in let long = c.scene_bvh-nodes_count.auto.tree in omega arith

pub slice_bounds-bvh-end-4 : goal.slice_bounds-bvh-end-4
slice_bounds-bvh-end-4 c = let h = c.requires in let t = h.lent in let few = t.few in let some = t.some in let room = h.for_tree.tree_room in let long = c.scene_bvh-nodes_count.auto.tree in omega arith

pub build_planes-planes-requires : goal.build_planes-planes-requires
build_planes-planes-requires c =
    let h = c.requires in let t = h.lent in let p = h.for_planes in let a = c.args in let w = scene_tree_from_zero h.scene a.triangles.now a.handles.now a.n a.m c.scene_bvh-nodes_count.new.nodes (take a.m c.scene_bvh-nodes_count.new.leaf_order) c.scene_bvh-nodes_count.new.tree c.scene_bvh-nodes_count.result (c.scene_bvh-nodes_count.ensures.stands h.scene h.found h.loaded h.cleared) in record {
      triangles_lent = t;
      held = (w.tree.held, w.tree.some);
      planes_room = record {
        keys_room = omega (arith, c.scene_bvh-nodes_count.auto.keys, p.keys_room);
        low_keys_room = p.low_keys_room;
        words_room = omega (arith, c.scene_bvh-nodes_count.auto.words, p.words_room);
        scratch_room = omega (arith, c.scene_bvh-nodes_count.auto.scratch, p.scratch_room);
        index_room = p.index_room;
        numbers_room = p.numbers_room;
        adjacency_room = p.adjacency_room;
        queue_room = p.queue_room;
        offsets_room = p.offsets_room;
        plane_triangles_room = p.plane_triangles_room;
        plane_words_room = p.plane_words_room;
        plane_floats_room = omega (arith, c.scene_bvh-nodes_count.auto.extents, p.plane_floats_room);
        floats_room = omega (arith, c.scene_bvh-nodes_count.auto.boxes, p.floats_room);
        plane_edges_room = omega (arith, c.scene_bvh-nodes_count.auto.areas, p.plane_edges_room);
      };
    }

pub shape_of-tree : goal.shape_of-tree
shape_of-tree c = c.scene_bvh-nodes_count.auto.tree

pub shape_of-nodes : goal.shape_of-nodes
shape_of-nodes c = c.scene_bvh-nodes_count.auto.nodes

pub shape_of-leaf_order : goal.shape_of-leaf_order
shape_of-leaf_order c = c.scene_bvh-nodes_count.auto.leaf_order

pub shape_of-keys : goal.shape_of-keys
shape_of-keys c = ◌∙◌ {b = length c.scene_bvh-nodes_count.new.keys} {c = length c.args.keys.now} c.build_planes-planes.auto.keys c.scene_bvh-nodes_count.auto.keys

pub shape_of-low_keys : goal.shape_of-low_keys
shape_of-low_keys c = c.build_planes-planes.auto.low_keys

pub shape_of-words : goal.shape_of-words
shape_of-words c = ◌∙◌ {b = length c.scene_bvh-nodes_count.new.words} {c = length c.args.words.now} c.build_planes-planes.auto.words c.scene_bvh-nodes_count.auto.words

pub shape_of-scratch : goal.shape_of-scratch
shape_of-scratch c = ◌∙◌ {b = length c.scene_bvh-nodes_count.new.scratch} {c = length c.args.scratch.now} c.build_planes-planes.auto.scratch c.scene_bvh-nodes_count.auto.scratch

pub shape_of-index : goal.shape_of-index
shape_of-index c = c.build_planes-planes.auto.index

pub shape_of-numbers : goal.shape_of-numbers
shape_of-numbers c = c.build_planes-planes.auto.numbers

pub shape_of-adjacency : goal.shape_of-adjacency
shape_of-adjacency c = c.build_planes-planes.auto.adjacency

pub shape_of-queue : goal.shape_of-queue
shape_of-queue c = c.build_planes-planes.auto.queue

pub shape_of-offsets : goal.shape_of-offsets
shape_of-offsets c = c.build_planes-planes.auto.offsets

pub shape_of-floats : goal.shape_of-floats
shape_of-floats c = ◌∙◌ {b = length c.scene_bvh-nodes_count.new.boxes} {c = length c.args.floats.now} c.build_planes-planes.auto.floats c.scene_bvh-nodes_count.auto.boxes

pub shape_of-plane_triangles : goal.shape_of-plane_triangles
shape_of-plane_triangles c = c.build_planes-planes.auto.plane_triangles

pub shape_of-plane_floats : goal.shape_of-plane_floats
shape_of-plane_floats c = ◌∙◌ {b = length c.scene_bvh-nodes_count.new.extents} {c = length c.args.plane_floats.now} c.build_planes-planes.auto.plane_floats c.scene_bvh-nodes_count.auto.extents

pub shape_of-plane_words : goal.shape_of-plane_words
shape_of-plane_words c = c.build_planes-planes.auto.plane_words

pub shape_of-plane_edges : goal.shape_of-plane_edges
shape_of-plane_edges c = ◌∙◌ {b = length c.scene_bvh-nodes_count.new.areas} {c = length c.args.plane_edges.now} c.build_planes-planes.auto.plane_edges c.scene_bvh-nodes_count.auto.areas

pub returns : goal.returns
returns c =
    let same-length-11 = c.build_planes-planes.auto.queue in
    let same-length-6 = ◌∙◌ {b = length c.scene_bvh-nodes_count.new.words} {c = length c.args.words.now} c.build_planes-planes.auto.words c.scene_bvh-nodes_count.auto.words in
    let same-length-7 = ◌∙◌ {b = length c.scene_bvh-nodes_count.new.scratch} {c = length c.args.scratch.now} c.build_planes-planes.auto.scratch c.scene_bvh-nodes_count.auto.scratch in
    let same-length-13 = ◌∙◌ {b = length c.scene_bvh-nodes_count.new.boxes} {c = length c.args.floats.now} c.build_planes-planes.auto.floats c.scene_bvh-nodes_count.auto.boxes in
    let same-length-10 = c.build_planes-planes.auto.adjacency in
    let same-length-12 = c.build_planes-planes.auto.offsets in
    let same-length-9 = c.build_planes-planes.auto.numbers in
    let same-length-8 = c.build_planes-planes.auto.index in
    let same-length-4 = ◌∙◌ {b = length c.scene_bvh-nodes_count.new.keys} {c = length c.args.keys.now} c.build_planes-planes.auto.keys c.scene_bvh-nodes_count.auto.keys in
    let same-length-5 = c.build_planes-planes.auto.low_keys in
    let a = c.args in record {
      tree_stands = c.scene_bvh-nodes_count.ensures.stands;
      planes_stand = record {
        are = λ s found l cleared.
            let w = scene_tree_from_zero s a.triangles.now a.handles.now a.n a.m c.scene_bvh-nodes_count.new.nodes (take a.m c.scene_bvh-nodes_count.new.leaf_order) c.scene_bvh-nodes_count.new.tree c.scene_bvh-nodes_count.result (c.scene_bvh-nodes_count.ensures.stands s found l cleared) in
            planes_are (triangles s) a.triangles.now a.handles.now a.n a.m s.materials w.triangles_read a.settings (take (12 * a.m - 0) (drop 0 c.scene_bvh-nodes_count.new.tree)) c.scene_bvh-nodes_count.new.nodes (take a.m c.scene_bvh-nodes_count.new.leaf_order) (rows_in a.m c.scene_bvh-nodes_count.new.tree)
            c.scene_bvh-nodes_count.result c.build_planes-planes.new.plane_floats c.build_planes-planes.new.plane_words c.build_planes-planes.new.plane_triangles c.build_planes-planes.new.plane_edges c.build_planes-planes.result w.tree c.build_planes-planes.ensures.by_index;
        most = c.build_planes-planes.ensures.upper_bound.0;
        held = c.build_planes-planes.ensures.upper_bound.1;
      };
      rest = (same-length-4, same-length-5, same-length-6, same-length-7, same-length-8, same-length-9, same-length-10, same-length-11, same-length-12, same-length-13);
    }
