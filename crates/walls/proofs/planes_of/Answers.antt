-- `walls::planes_of` meets its contract: no triangle is kept, or the scene is loaded and its planes are built.
use mathlib.Core.Path.{◌≡◌, refl, sym}
use native.Mathlib.Omega.{arith}
use native.Mathlib.Nat.{pos_of_ne-zero}
use Rattle.scene.specs.Scene.{scene}
use Rattle.placing.specs.Corners.{placings}
use Rattle.placing.specs.Loading.{first_refusal}
use Rattle.placing.proofs.Accepts.{loaded_accepted}
use Rattle.scene_bvh.proofs.Scenes.{loaded, limits}
use Rattle.query.specs.Areas.{work}
use Rattle.query.proofs.Call.{front_refusal, fronted, within}
use Rattle.walls.specs.Walls.{lens_of}
use Rattle.std.proofs.lemmas.Result.{err_from_is_err_and}
use Rattle.walls.proofs.Unbuilt.{none_built}
use Rattle.walls.proofs.planes_of.Goals as goal

pub load_scene-requires : goal.load_scene-requires
load_scene-requires c = (omega arith, omega arith)

pub returns-then-loaded-eq0 : goal.returns-then-loaded-eq0
returns-then-loaded-eq0 c = let a = c.args in let s = scene a.meshes.now a.transforms.now a.positions.now a.indices.now a.materials.now a.rows_count in
    let found = work a.triangles.now a.handles.now a.tree.now a.nodes.now a.leaf_order.now a.keys.now a.low_keys.now a.words.now a.scratch.now a.index.now a.numbers.now a.adjacency.now a.queue.now a.offsets.now a.floats.now a.plane_triangles.now a.plane_floats.now a.plane_words.now a.plane_edges.now in
    none_built a.settings a.c s found _ _ _ c.in_ok-loaded.ensures c.if-loaded-eq0.true

pub returns-in_err-loaded : goal.returns-in_err-loaded
returns-in_err-loaded c = let a = c.args in let s = scene a.meshes.now a.transforms.now a.positions.now a.indices.now a.materials.now a.rows_count in
    let found = work a.triangles.now a.handles.now a.tree.now a.nodes.now a.leaf_order.now a.keys.now a.low_keys.now a.words.now a.scratch.now a.index.now a.numbers.now a.adjacency.now a.queue.now a.offsets.now a.floats.now a.plane_triangles.now a.plane_floats.now a.plane_words.now a.plane_edges.now in
    let p = err_from_is_err_and c.from_residual.result c.from_residual.ensures.1 in
    rw (p.1, p.2) (none_built a.settings a.c s found _ _ _ c.in_err-loaded.ensures refl)

pub clear_from-requires : goal.clear_from-requires
clear_from-requires c = let a = c.args in let st = a.settings in let s = scene a.meshes.now a.transforms.now a.positions.now a.indices.now a.materials.now a.rows_count in
    let areas = work a.triangles.now a.handles.now a.tree.now a.nodes.now a.leaf_order.now a.keys.now a.low_keys.now a.words.now a.scratch.now a.index.now a.numbers.now a.adjacency.now a.queue.now a.offsets.now a.floats.now a.plane_triangles.now a.plane_floats.now a.plane_words.now a.plane_edges.now in
    let lens = lens_of areas in
    let k = first_refusal st a.c s lens in
    let l = c.in_ok-loaded.ensures in
    let is : 0 ≡ k = front_refusal k s _ _ l.answer refl in
    let some = pos_of_ne-zero c.if-loaded-eq0.false in
    let fr = fronted k s _ _ l.answer refl (sym is) in
    let there = loaded st a.c s lens a.triangles.now a.handles.now _ c.load_scene.new.triangles c.load_scene.new.handles _ (placings s) _ fr.loaded l in
    let acc = loaded_accepted st a.c s lens a.triangles.now a.handles.now _ c.load_scene.new.triangles c.load_scene.new.handles _ (placings s) _ l fr.loaded in
    let room = acc.room in
    let lim = limits s c.load_scene.new.triangles c.load_scene.new.handles _ _ there in omega (arith, lim.fewer, c.load_scene.auto.handles, room.handles_room)

pub build_scene-built-requires : goal.build_scene-built-requires
build_scene-built-requires c = let a = c.args in let st = a.settings in let s = scene a.meshes.now a.transforms.now a.positions.now a.indices.now a.materials.now a.rows_count in
    let areas = work a.triangles.now a.handles.now a.tree.now a.nodes.now a.leaf_order.now a.keys.now a.low_keys.now a.words.now a.scratch.now a.index.now a.numbers.now a.adjacency.now a.queue.now a.offsets.now a.floats.now a.plane_triangles.now a.plane_floats.now a.plane_words.now a.plane_edges.now in
    let lens = lens_of areas in
    let k = first_refusal st a.c s lens in
    let l = c.in_ok-loaded.ensures in
    let is : 0 ≡ k = front_refusal k s _ _ l.answer refl in
    let some = pos_of_ne-zero c.if-loaded-eq0.false in
    let fr = fronted k s _ _ l.answer refl (sym is) in
    let there = loaded st a.c s lens a.triangles.now a.handles.now _ c.load_scene.new.triangles c.load_scene.new.handles _ (placings s) _ fr.loaded l in
    let acc = loaded_accepted st a.c s lens a.triangles.now a.handles.now _ c.load_scene.new.triangles c.load_scene.new.handles _ (placings s) _ l fr.loaded in
    let room = acc.room in
    let lim = limits s c.load_scene.new.triangles c.load_scene.new.handles _ _ there in record {
      scene = s;
      found = c.load_scene.new.handles;
      loaded = there;
      cleared = c.clear_from.ensures;
      some = some;
      lent = record { few = omega (arith, lim.most); some = lim.fewer; columns = omega (arith, c.load_scene.auto.triangles, room.triangles_room); named = omega (arith, c.clear_from.auto.handles, c.load_scene.auto.handles, room.handles_room) };
      for_tree = record { tree_room = room.tree_room; nodes_room = room.nodes_room; leaf_order_room = room.leaf_order_room };
      for_planes = record {
        keys_room = omega (arith, room.keys_room);
        low_keys_room = room.low_keys_room;
        words_room = omega (arith, room.words_room);
        scratch_room = omega (arith, room.scratch_room);
        index_room = room.index_room;
        numbers_room = omega (arith, room.numbers_room);
        adjacency_room = omega (arith, room.adjacency_room);
        queue_room = omega (arith, room.queue_room);
        offsets_room = omega (arith, room.offsets_room);
        plane_triangles_room = omega (arith, room.plane_triangles_room);
        plane_words_room = room.plane_words_room;
        plane_floats_room = room.plane_floats_room;
        floats_room = omega (arith, room.floats_room);
        plane_edges_room = omega (arith, room.plane_edges_room);
      };
    }

pub returns : goal.returns
returns c = let a = c.args in let st = a.settings in let s = scene a.meshes.now a.transforms.now a.positions.now a.indices.now a.materials.now a.rows_count in
    let areas = work a.triangles.now a.handles.now a.tree.now a.nodes.now a.leaf_order.now a.keys.now a.low_keys.now a.words.now a.scratch.now a.index.now a.numbers.now a.adjacency.now a.queue.now a.offsets.now a.floats.now a.plane_triangles.now a.plane_floats.now a.plane_words.now a.plane_edges.now in
    let lens = lens_of areas in
    let k = first_refusal st a.c s lens in
    let l = c.in_ok-loaded.ensures in
    let is : 0 ≡ k = front_refusal k s _ _ l.answer refl in
    let some = pos_of_ne-zero
    c.if-loaded-eq0.false in
    let fr = fronted k s _ _ l.answer refl (sym is) in
    let there = loaded st a.c s lens a.triangles.now a.handles.now _ c.load_scene.new.triangles c.load_scene.new.handles _ (placings s) _ fr.loaded l in
    let acc = loaded_accepted st a.c s lens a.triangles.now a.handles.now _ c.load_scene.new.triangles c.load_scene.new.handles _ (placings s) _ l fr.loaded in
    let room = acc.room in let p = c.build_scene-built.ensures.planes_stand in let inside = within st a.c acc.settings in
    record {
      refusal = is;
      are = λ z some. p.are s c.load_scene.new.handles there
          c.clear_from.ensures;
      refused = λ no_answer. absurd (no_answer (sym is));
      bare = λ empty. absurd (let no : ⊥ = omega (arith, fr.kept, some, empty) in no);
      unbuilt = λ empty. absurd (let no : ⊥ = omega (arith, fr.kept, some, empty (sym is)) in no);
      few = omega (arith, p.most, inside.planes);
      floats_room = p.held.floats_room;
      words_room = p.held.words_room;
    }
