-- `answer::find` meets its contract: nothing is searched, or the search goes over the tree and the planes of the scene's triangles.
use mathlib.Core.Path.{sym, ◌∙◌}
use lib.ListN.{length, take, drop}
use lib.Seq.{length-take-le}
use Prim.Native.Nat.{◌*◌, ◌-◌}
use native.Mathlib.Omega.{arith}
use Rattle.placing.specs.Corners.{triangles}
use Rattle.planes_patches.specs.Triangles.{nth_triangle}
use Rattle.bvh.specs.Bvh.{rows_in}
use Rattle.ranking.specs.Rows.{candidates_in}
use Rattle.claim.specs.Query.{search}
use Rattle.scene_bvh.specs.SceneTree.{tree_of}
use Rattle.scene_bvh.proofs.Asked.{scene_tree_from_zero}
use Rattle.front.specs.Asked.{silent_of, order_of_search}
use Rattle.answer.proofs.Planes.{search_lent, search_reads, search_for_lem}
use Rattle.answer.proofs.Silence.{silent_finds, heard_finds, silent_some}
use Rattle.answer.proofs.find.Goals as goal

pub returns-then-silent : goal.returns-then-silent
returns-then-silent c = let a = c.args in record {
  finds = record {
    over = λ s f l cleared same. silent_finds a.settings (triangles s) s.materials a.source a.listener (silent_of a.separated a.source a.listener
        a.m) (order_of_search a.settings) a.room a.floats.now a.numbers.now (◌∙◌ {b = c.silent.result} (sym c.silent.ensures) c.if-silent.true);
  };
  found_le_room = omega arith;
}

pub build_scene-built-requires : goal.build_scene-built-requires
build_scene-built-requires c =
    let h = c.requires (◌∙◌ {b = c.silent.result} (sym c.silent.ensures) c.if-silent.false) in let d = h.held in let a = c.args in
    record { scene = d.scene; found = d.found; loaded = d.loaded; cleared = d.cleared; some = silent_some a.separated a.source a.listener a.m (◌∙◌ {b = c.silent.result} (sym c.silent.ensures) c.if-silent.false); lent = h.lent; for_tree = h.for_tree; for_planes = h.for_planes }

pub overflow_mul-from : goal.overflow_mul-from
overflow_mul-from c =
    let h = c.requires (◌∙◌ {b = c.silent.result} (sym c.silent.ensures) c.if-silent.false) in let t = h.lent in let few = t.few in let some = t.some in omega arith

pub overflow_mul-to : goal.overflow_mul-to
overflow_mul-to c =
    let h = c.requires (◌∙◌ {b = c.silent.result} (sym c.silent.ensures) c.if-silent.false) in let t = h.lent in let few = t.few in let some = t.some in omega arith

pub slice_bounds-bvh-count : goal.slice_bounds-bvh-count
slice_bounds-bvh-count c =
    let h = c.requires (◌∙◌ {b = c.silent.result} (sym c.silent.ensures) c.if-silent.false) in let t = h.lent in let few = t.few in let some = t.some in let room = h.for_tree.tree_room in let long = c.build_scene-built.auto.tree in omega arith

pub slice_bounds-bvh-start : goal.slice_bounds-bvh-start
slice_bounds-bvh-start c =
    let h = c.requires (◌∙◌ {b = c.silent.result} (sym
    c.silent.ensures) c.if-silent.false) in let t = h.lent in let few = t.few in let some = t.some in let room = h.for_tree.tree_room in let long = c.build_scene-built.auto.tree in omega arith

pub slice_bounds-bvh-end : goal.slice_bounds-bvh-end
slice_bounds-bvh-end c =
    let h = c.requires (◌∙◌ {b = c.silent.result} (sym
    c.silent.ensures) c.if-silent.false) in let t = h.lent in let few = t.few in let some = t.some in let room = h.for_tree.tree_room in let long = c.build_scene-built.auto.tree in omega arith

pub slice_bounds-bvh-end-2 : goal.slice_bounds-bvh-end-2
slice_bounds-bvh-end-2 c =
    let h = c.requires (◌∙◌ {b = c.silent.result} (sym c.silent.ensures) c.if-silent.false) in omega (
      arith,
      c.build_scene-built.auto.leaf_order,
      h.for_tree.leaf_order_room,
      h.lent.some,
    )

pub slice_bounds-bvh-end-3 : goal.slice_bounds-bvh-end-3
slice_bounds-bvh-end-3 c =
    let h = c.requires (◌∙◌ {b = c.silent.result} (sym c.silent.ensures)
    c.if-silent.false) in sym (length-take-le c.args.m c.build_scene-built.new.leaf_order (omega (
      arith,
      c.build_scene-built.auto.leaf_order,
      h.for_tree.leaf_order_room,
      h.lent.some,
    )))

pub offset_bounds-tree-from : goal.offset_bounds-tree-from
offset_bounds-tree-from c =
    let h = c.requires (◌∙◌ {b = c.silent.result} (sym c.silent.ensures) c.if-silent.false) in let t = h.lent in let few = t.few in let some = t.some in omega arith

pub slice_bounds-bvh-count-2 : goal.slice_bounds-bvh-count-2
slice_bounds-bvh-count-2 c =
    let h = c.requires (◌∙◌ {b = c.silent.result} (sym c.silent.ensures) c.if-silent.false) in let t = h.lent in let few = t.few in let some = t.some in let room = h.for_tree.tree_room in let long = c.build_scene-built.auto.tree in omega arith

pub slice_bounds-bvh-start-2 : goal.slice_bounds-bvh-start-2
slice_bounds-bvh-start-2 c =
    let h = c.requires (◌∙◌ {b = c.silent.result} (sym c.silent.ensures) c.if-silent.false) in let t = h.lent in let few = t.few in let some = t.some in let room = h.for_tree.tree_room in let long = c.build_scene-built.auto.tree in omega arith

pub slice_bounds-bvh-end-4 : goal.slice_bounds-bvh-end-4
slice_bounds-bvh-end-4 c =
    let h = c.requires (◌∙◌ {b = c.silent.result} (sym c.silent.ensures) c.if-silent.false) in let t = h.lent in let few = t.few in let some = t.some in let room = h.for_tree.tree_room in let long = c.build_scene-built.auto.tree in omega arith

pub search_images-requires : goal.search_images-requires
search_images-requires c =
    let h = c.requires (◌∙◌ {b = c.silent.result} (sym c.silent.ensures)
    c.if-silent.false) in let t = h.lent in let d = h.held in let rr = h.for_found in let a = c.args in let p = c.build_scene-built.ensures.planes_stand in
    let w = scene_tree_from_zero d.scene a.triangles.now a.handles.now a.n a.m c.build_scene-built.new.nodes (take a.m c.build_scene-built.new.leaf_order) c.build_scene-built.new.tree c.build_scene-built.result.nodes (c.build_scene-built.ensures.tree_stands d.scene d.found d.loaded d.cleared) in record {
      scene_lent = search_lent d.scene a.triangles.now a.handles.now a.n a.m (take (12 * a.m - 0) (drop 0 c.build_scene-built.new.tree)) c.build_scene-built.new.nodes (take a.m c.build_scene-built.new.leaf_order) (rows_in a.m c.build_scene-built.new.tree) c.build_scene-built.result.nodes c.build_scene-built.new.plane_floats c.build_scene-built.new.plane_words
          c.build_scene-built.new.plane_triangles c.build_scene-built.new.plane_edges c.build_scene-built.result.planes w p.held a.materials.now d.same t.columns t.some;
      order_le_max_order = (
        omega (
          arith,
          c.search_order-order.ensures,
        ),
        omega (arith, p.most, h.few),
        h.crossings,
      );
      candidate_rows = record { few = rr.few; floats = omega (arith, c.build_scene-built.auto.floats, rr.floats); words = omega (arith, c.build_scene-built.auto.numbers, rr.words) };
    }

pub shape_of-tree : goal.shape_of-tree
shape_of-tree c = c.build_scene-built.auto.tree

pub shape_of-nodes : goal.shape_of-nodes
shape_of-nodes c = c.build_scene-built.auto.nodes

pub shape_of-leaf_order : goal.shape_of-leaf_order
shape_of-leaf_order c = c.build_scene-built.auto.leaf_order

pub shape_of-keys : goal.shape_of-keys
shape_of-keys c = c.build_scene-built.auto.keys

pub shape_of-low_keys : goal.shape_of-low_keys
shape_of-low_keys c = c.build_scene-built.auto.low_keys

pub shape_of-words : goal.shape_of-words
shape_of-words c = c.build_scene-built.auto.words

pub shape_of-scratch : goal.shape_of-scratch
shape_of-scratch c = c.build_scene-built.auto.scratch

pub shape_of-index : goal.shape_of-index
shape_of-index c = c.build_scene-built.auto.index

pub shape_of-numbers : goal.shape_of-numbers
shape_of-numbers c = ◌∙◌ {b = length c.build_scene-built.new.numbers} c.search_images.auto.candidate_words c.build_scene-built.auto.numbers

pub shape_of-adjacency : goal.shape_of-adjacency
shape_of-adjacency c = c.build_scene-built.auto.adjacency

pub shape_of-queue : goal.shape_of-queue
shape_of-queue c = c.build_scene-built.auto.queue

pub shape_of-offsets : goal.shape_of-offsets
shape_of-offsets c = c.build_scene-built.auto.offsets

pub shape_of-floats : goal.shape_of-floats
shape_of-floats c = ◌∙◌ {b = length c.build_scene-built.new.floats} c.search_images.auto.candidate_floats c.build_scene-built.auto.floats

pub shape_of-plane_triangles : goal.shape_of-plane_triangles
shape_of-plane_triangles c = c.build_scene-built.auto.plane_triangles

pub shape_of-plane_floats : goal.shape_of-plane_floats
shape_of-plane_floats c = c.build_scene-built.auto.plane_floats

pub shape_of-plane_words : goal.shape_of-plane_words
shape_of-plane_words c = c.build_scene-built.auto.plane_words

pub shape_of-plane_edges : goal.shape_of-plane_edges
shape_of-plane_edges c = c.build_scene-built.auto.plane_edges

pub returns : goal.returns
returns c =
    let a = c.args in let quiet = ◌∙◌ {b = c.silent.result} (sym c.silent.ensures) c.if-silent.false in let p = c.build_scene-built.ensures.planes_stand in record {
      finds = record {
        over = λ s f l cleared same.
            let w = scene_tree_from_zero s a.triangles.now a.handles.now a.n a.m c.build_scene-built.new.nodes (take a.m c.build_scene-built.new.leaf_order) c.build_scene-built.new.tree c.build_scene-built.result.nodes (c.build_scene-built.ensures.tree_stands s f l cleared) in
            let found = search c.search_images.result.images c.search_images.result.rays (candidates_in c.search_images.result.found c.search_images.new.candidate_floats c.search_images.new.candidate_words) c.search_images.result.over in
            heard_finds a.settings (triangles s) a.materials.now s.materials a.source a.listener (silent_of a.separated a.source a.listener a.m) c.search_order-order.result (order_of_search a.settings) a.room found quiet c.search_order-order.ensures same
            (search_for_lem s a.triangles.now a.handles.now a.n a.m (take (12 * a.m - 0) (drop 0 c.build_scene-built.new.tree)) c.build_scene-built.new.nodes (take a.m c.build_scene-built.new.leaf_order) (rows_in a.m c.build_scene-built.new.tree) c.build_scene-built.result.nodes c.build_scene-built.new.plane_floats c.build_scene-built.new.plane_words
            c.build_scene-built.new.plane_triangles c.build_scene-built.new.plane_edges c.build_scene-built.result.planes w p.held a.settings a.materials.now a.source a.listener c.search_order-order.result a.room found
            (c.search_images.ensures.searched (nth_triangle (triangles s)) (tree_of (triangles s)) (search_reads s a.triangles.now a.handles.now a.n a.m (take (12 * a.m - 0) (drop 0 c.build_scene-built.new.tree)) c.build_scene-built.new.nodes (take a.m c.build_scene-built.new.leaf_order) (rows_in a.m c.build_scene-built.new.tree) c.build_scene-built.result.nodes c.build_scene-built.new.plane_floats
            c.build_scene-built.new.plane_words c.build_scene-built.new.plane_triangles c.build_scene-built.new.plane_edges c.build_scene-built.result.planes w p.held)) (p.are s f l cleared));
      };
      found_le_room = c.search_images.ensures.few;
    }

pub silent-requires : goal.silent-requires
silent-requires c = tt

pub search_order-order-requires : goal.search_order-order-requires
search_order-order-requires c = tt
