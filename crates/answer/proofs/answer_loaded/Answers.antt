-- `answer::answer_loaded` meets its contract: the handles are made ready, what the search found is sent, and the areas are cleared at the end.
use mathlib.Core.Path.{◌∙◌}
use lib.ListN.{length}
use native.Mathlib.Omega.{arith}
use Rattle.scene.specs.Speed.{speed_of}
use Rattle.planes_patches.specs.Triangles.{nth_triangle}
use Rattle.placing.specs.Corners.{triangles}
use Rattle.ranking.specs.Rows.{candidates_in}
use Rattle.claim.specs.Query.{ended}
use Rattle.claim.specs.Query as claim
use Rattle.search.specs.Outcome.{on_bytes}
use Rattle.scene_bvh.specs.SceneTree.{tree_of}
use Rattle.taps.proofs.Found.{search_sendable}
use Rattle.taps.proofs.Ending.{sendable_rankable}
use Rattle.front.specs.Asked.{silent_of, used_order, order_of_search, limit_of}
use Rattle.scene_planes.specs.ScenePlanes.{planes_for}
use Rattle.answer.specs.Answer.{query_for}
use Rattle.answer.proofs.Answering.{end_is, by_same}
use Rattle.answer.proofs.Silence.{used_most, silent_some, unrefused, within_area}
use Rattle.answer.proofs.answer_loaded.Goals as goal

pub clear_from-requires : goal.clear_from-requires
clear_from-requires c = let a = c.args in within_area a.refusal a.m (length a.handles.now) (λ none. let t = (c.requires.ready none).lent in omega (arith, t.named, t.some)) c.requires.m_value

pub find-found-requires : goal.find-found-requires
find-found-requires c =
    let a = c.args in λ quiet.
    let h = c.requires.ready (unrefused a.refusal a.m c.requires.m_value (silent_some a.separated a.source a.listener a.m quiet)) in
    let t = h.lent in
    record {
      held = record { scene = h.scene.scene; found = a.handles.now; loaded = h.scene.loaded; cleared = c.clear_from.ensures; same = h.scene.same };
      lent = record { few = t.few; some = t.some; columns = t.columns; named = omega (arith, c.clear_from.auto.handles, t.named) };
      for_tree = h.for_tree;
      for_planes = h.for_planes;
      few = h.few;
      crossings = h.crossings;
      for_found = h.for_found;
    }

pub send-r-requires : goal.send-r-requires
send-r-requires c = let a = c.args in let r = c.find-found.result in let ready = c.clear_from.ensures in λ none.
    let h = c.requires.ready none in
    let q = h.for_list in
    let rr = h.for_found in
    let sane = h.sane in
    let st = a.settings in
    let few = c.find-found.ensures.found_le_room in
    let there = h.scene.scene in
    let ts = triangles there in
    let e = c.find-found.ensures.finds.over there a.handles.now h.scene.loaded ready h.scene.same in
    let good =
    search_sendable st (planes_for st ts) (nth_triangle ts) (tree_of ts) there.materials a.source a.listener sane.rates sane.model sane.fit
    (on_bytes (planes_for st ts) a.source) (used_order (silent_of a.separated a.source a.listener a.m) (order_of_search st)) a.room r.found c.find-found.new.floats c.find-found.new.numbers r.images r.rays r.over
    (used_most (silent_of a.separated a.source a.listener a.m) (order_of_search st) (omega arith)) e
    in
    record {
      sortable = record {
        rows = record { few = omega (arith, few, rr.few); floats = omega (arith, few, rr.floats, c.find-found.auto.floats); words = omega (arith, few, rr.words, c.find-found.auto.numbers) };
        numbers = sendable_rankable r.images r.found c.find-found.new.floats c.find-found.new.numbers good;
        for_keys = omega (arith, few, q.keys_room, c.find-found.auto.keys);
      };
      for_index = omega (arith, few, q.queue_room, c.find-found.auto.queue);
      for_words = omega (arith, few, q.words_room, c.find-found.auto.words);
      for_scratch = omega (arith, few, q.scratch_room, c.find-found.auto.scratch);
      sendable = good;
      few = q.few;
      for_out = q.out_room;
    }

pub shape_of-triangles : goal.shape_of-triangles
shape_of-triangles c = c.clear_scene.auto.triangles

pub shape_of-handles : goal.shape_of-handles
shape_of-handles c = ◌∙◌ {b = length c.clear_from.new.handles} c.clear_scene.auto.handles c.clear_from.auto.handles

pub shape_of-tree : goal.shape_of-tree
shape_of-tree c = ◌∙◌ {b = length c.find-found.new.tree} c.clear_scene.auto.tree c.find-found.auto.tree

pub shape_of-nodes : goal.shape_of-nodes
shape_of-nodes c = ◌∙◌ {b = length c.find-found.new.nodes} c.clear_scene.auto.nodes c.find-found.auto.nodes

pub shape_of-leaf_order : goal.shape_of-leaf_order
shape_of-leaf_order c = ◌∙◌ {b = length c.find-found.new.leaf_order} c.clear_scene.auto.leaf_order c.find-found.auto.leaf_order

pub shape_of-keys : goal.shape_of-keys
shape_of-keys c = ◌∙◌ {b = length c.send-r.new.keys} c.clear_keys.auto.keys (◌∙◌ {b = length c.find-found.new.keys} c.send-r.auto.keys c.find-found.auto.keys)

pub shape_of-low_keys : goal.shape_of-low_keys
shape_of-low_keys c = ◌∙◌ {b = length c.find-found.new.low_keys} c.clear_keys.auto.low_keys c.find-found.auto.low_keys

pub shape_of-words : goal.shape_of-words
shape_of-words c = ◌∙◌ {b = length c.send-r.new.words} c.clear_keys.auto.words (◌∙◌ {b = length c.find-found.new.words} c.send-r.auto.words c.find-found.auto.words)

pub shape_of-scratch : goal.shape_of-scratch
shape_of-scratch c = ◌∙◌ {b = length c.send-r.new.scratch} c.clear_keys.auto.scratch (◌∙◌ {b = length c.find-found.new.scratch} c.send-r.auto.scratch c.find-found.auto.scratch)

pub shape_of-index : goal.shape_of-index
shape_of-index c = ◌∙◌ {b = length c.find-found.new.index} c.clear_lists.auto.a c.find-found.auto.index

pub shape_of-numbers : goal.shape_of-numbers
shape_of-numbers c = ◌∙◌ {b = length c.find-found.new.numbers} c.clear_lists.auto.b c.find-found.auto.numbers

pub shape_of-adjacency : goal.shape_of-adjacency
shape_of-adjacency c = ◌∙◌ {b = length c.find-found.new.adjacency} c.clear_lists.auto.c c.find-found.auto.adjacency

pub shape_of-queue : goal.shape_of-queue
shape_of-queue c = ◌∙◌ {b = length c.send-r.new.queue} c.clear_lists.auto.d (◌∙◌ {b = length c.find-found.new.queue} c.send-r.auto.queue c.find-found.auto.queue)

pub shape_of-offsets : goal.shape_of-offsets
shape_of-offsets c = ◌∙◌ {b = length c.find-found.new.offsets} c.clear_lists.auto.e c.find-found.auto.offsets

pub shape_of-floats : goal.shape_of-floats
shape_of-floats c = ◌∙◌ {b = length c.find-found.new.floats} c.clear_floats.auto.b c.find-found.auto.floats

pub shape_of-plane_triangles : goal.shape_of-plane_triangles
shape_of-plane_triangles c = ◌∙◌ {b = length c.find-found.new.plane_triangles} c.clear_pair.auto.a c.find-found.auto.plane_triangles

pub shape_of-plane_floats : goal.shape_of-plane_floats
shape_of-plane_floats c = ◌∙◌ {b = length c.find-found.new.plane_floats} c.clear_floats.auto.a c.find-found.auto.plane_floats

pub shape_of-plane_words : goal.shape_of-plane_words
shape_of-plane_words c = ◌∙◌ {b = length c.find-found.new.plane_words} c.clear_pair.auto.b c.find-found.auto.plane_words

pub shape_of-plane_edges : goal.shape_of-plane_edges
shape_of-plane_edges c = ◌∙◌ {b = length c.find-found.new.plane_edges} c.clear_floats.auto.c c.find-found.auto.plane_edges

pub shape_of-out : goal.shape_of-out
shape_of-out c = c.send-r.auto.out

pub returns : goal.returns
returns c = let a = c.args in let st = a.settings in let r = c.find-found.result in let ready = c.clear_from.ensures in
    let k = c.clear_keys.ensures in let l = c.clear_lists.ensures in let j = c.clear_pair.ensures in let g = c.clear_floats.ensures in
    let end = claim.search r.images r.rays (candidates_in r.found c.find-found.new.floats c.find-found.new.numbers) r.over in record {
      answers_loaded = record {
        over = λ s loaded same.
            by_same a.refusal (ended (speed_of st.temperature_celsius) st.sample_rate (limit_of st) end)
            (query_for st (triangles s) s.materials a.source a.listener (used_order (silent_of a.separated a.source a.listener a.m) (order_of_search st)) a.room (limit_of st)) c.send-r.result a.out.now c.send-r.new.out
            (λ none.
            end_is st (triangles s) s.materials a.source a.listener (used_order (silent_of a.separated a.source a.listener a.m) (order_of_search st)) a.room (limit_of st) end
            (c.find-found.ensures.finds.over s a.handles.now (loaded none) ready same))
            c.send-r.ensures;
      };
      planes_zero = record {
        keys_zero = k.0;
        low_keys_zero = k.1;
        words_zero = k.2;
        scratch_zero = k.3;
        index_zero = l.0;
        numbers_zero = l.1;
        adjacency_zero = l.2;
        queue_zero = l.3;
        offsets_zero = l.4;
        plane_triangles_zero = j.0;
        plane_words_zero = j.1;
        plane_floats_zero = g.0;
        floats_zero = g.1;
        plane_edges_zero = g.2;
      };
      scene_zero = c.clear_scene.ensures;
    }

pub clear_keys-requires : goal.clear_keys-requires
clear_keys-requires c = tt

pub clear_lists-requires : goal.clear_lists-requires
clear_lists-requires c = tt

pub clear_pair-requires : goal.clear_pair-requires
clear_pair-requires c = tt

pub clear_floats-requires : goal.clear_floats-requires
clear_floats-requires c = tt

pub clear_scene-requires : goal.clear_scene-requires
clear_scene-requires c = tt
