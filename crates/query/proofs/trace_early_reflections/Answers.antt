-- `query::trace_early_reflections` meets its contract: what loading answers decides, and each way ends as the definition says.
use mathlib.Core.Path.{◌≡◌, refl, sym, ap, subst, ◌∙◌}
use mathlib.Core.Bool.{true, false}
use Prim.Native.Nat.{ℕ}
use lib.Dec.{T}
use lib.ListN.{length}
use native.Mathlib.Omega.{arith}
use Rattle.scene.specs.Scene.{scene}
use Rattle.placing.specs.Corners.{placings}
use Rattle.placing.specs.Loading.{load_said, first_refusal}
use Rattle.placing.proofs.Accepts.{loaded_accepted}
use Rattle.scene_bvh.proofs.Scenes.{loaded, limits}
use Rattle.claim.specs.Query.{refused}
use Rattle.front.specs.Asked.{early_of}
use Rattle.answer.specs.Answer.{answered_of}
use Rattle.query.specs.Areas.{work, lengths_of}
use Rattle.query.specs.Trace.{query_in}
use Rattle.query.proofs.Zero.{all_zero}
use Rattle.query.proofs.Call.{front_refusal, fronted, none_kept, within, left_found, early_some, early_less, scene_found, work_cleared, refused_answers, loaded_answers, traced}
use Rattle.query.proofs.trace_early_reflections.Goals as goal

pub load_scene-loaded-requires : goal.load_scene-loaded-requires
load_scene-loaded-requires c = (omega arith, omega arith)

pub shape_of-triangles-then-early : goal.shape_of-triangles-then-early
shape_of-triangles-then-early c = c.load_scene-loaded.auto.triangles

pub shape_of-handles-then-early : goal.shape_of-handles-then-early
shape_of-handles-then-early c = c.load_scene-loaded.auto.handles

pub returns-then-early : goal.returns-then-early
returns-then-early c = let a = c.args in let st = a.settings in let s = scene a.meshes.now a.transforms.now a.positions.now a.indices.now a.materials.now a.rows_count in
    let w = work a.triangles.now a.handles.now a.tree.now a.nodes.now a.leaf_order.now a.keys.now a.low_keys.now a.words.now a.scratch.now a.index.now a.numbers.now a.adjacency.now a.queue.now a.offsets.now a.floats.now a.plane_triangles.now a.plane_floats.now a.plane_words.now a.plane_edges.now in
    let lens = lengths_of w a.out.now in
    let k = first_refusal st a.c s lens in
    let l = c.load_scene-loaded.ensures in
    let is = front_refusal k s (load_said c.load_scene-loaded.result) c.front_of-front.result l.answer c.front_of-front.ensures in
    let e : early_of k ≡ true = sym (ap (λ (j : ℕ). early_of j) is) ∙ sym c.early.ensures ∙ c.if-early.true in
    let some = early_some k e in
    let less = early_less k e in
    traced st a.c s a.source a.listener a.separated c.refused.result a.out.now a.out.now w
    (work c.load_scene-loaded.new.triangles c.load_scene-loaded.new.handles a.tree.now a.nodes.now a.leaf_order.now a.keys.now a.low_keys.now a.words.now a.scratch.now a.index.now a.numbers.now a.adjacency.now a.queue.now a.offsets.now a.floats.now a.plane_triangles.now a.plane_floats.now
    a.plane_words.now a.plane_edges.now)
    (refused_answers k (query_in st a.c s a.source a.listener a.separated) c.refused.result a.out.now a.out.now some
    (c.refused.ensures ∙ ap (λ j. answered_of (refused j)) is) refl)
    (scene_found k w c.load_scene-loaded.new.triangles c.load_scene-loaded.new.handles (l.filled ∙ left_found k _ _ _ some less) (l.named ∙ left_found k _ _ _ some less) e)

pub answer_loaded-requires : goal.answer_loaded-requires
answer_loaded-requires c =
    let model = c.well_formed.1.1.1.1.1.1.1.1.1.1.1.1.1.1.1.1.1.1.1.1.0.1.1.1.1.1.1.1.1.1.1.1.1.1.0.1.1 in let a = c.args in let st = a.settings in let s = scene a.meshes.now a.transforms.now a.positions.now a.indices.now a.materials.now a.rows_count in
    let w = work a.triangles.now a.handles.now a.tree.now a.nodes.now a.leaf_order.now a.keys.now a.low_keys.now a.words.now a.scratch.now a.index.now a.numbers.now a.adjacency.now a.queue.now a.offsets.now a.floats.now a.plane_triangles.now a.plane_floats.now a.plane_words.now a.plane_edges.now in
    let lens = lengths_of w a.out.now in
    let k = first_refusal st a.c s lens in
    let l = c.load_scene-loaded.ensures in
    let is = front_refusal k s (load_said c.load_scene-loaded.result) c.front_of-front.result l.answer c.front_of-front.ensures in record {
      ready = λ none.
          let fr = fronted k s (load_said c.load_scene-loaded.result) c.front_of-front.result l.answer c.front_of-front.ensures (sym is ∙ none) in
          let there = loaded st a.c s lens a.triangles.now a.handles.now (load_said c.load_scene-loaded.result) c.load_scene-loaded.new.triangles c.load_scene-loaded.new.handles c.front_of-front.result.kept (placings s) c.front_of-front.result.triples fr.loaded l in
          let acc = loaded_accepted st a.c s lens a.triangles.now a.handles.now (load_said c.load_scene-loaded.result) c.load_scene-loaded.new.triangles c.load_scene-loaded.new.handles c.front_of-front.result.kept (placings s) c.front_of-front.result.triples l fr.loaded in
          let room = acc.room in
          let lim = limits s c.load_scene-loaded.new.triangles c.load_scene-loaded.new.handles c.front_of-front.result.triples c.front_of-front.result.kept there in
          let inside = within st a.c acc.settings in
          record {
            scene = record { scene = s; loaded = there; same = refl };
            lent = record { few = omega (arith, lim.most); some = lim.fewer; columns = omega (arith, c.load_scene-loaded.auto.triangles, room.triangles_room); named = omega (arith, c.load_scene-loaded.auto.handles, room.handles_room) };
            for_tree = record { tree_room = room.tree_room; nodes_room = room.nodes_room; leaf_order_room = room.leaf_order_room };
            for_planes = record {
              keys_room = omega (arith, room.keys_room);
              low_keys_room = room.low_keys_room;
              words_room = omega (arith, room.words_room);
              scratch_room = omega (arith, room.scratch_room);
              index_room = room.index_room;
              numbers_room = omega (arith, room.numbers_room);
              adjacency_room = omega (arith, room.adjacency_room);
              queue_room = omega (arith, room.queue_room);
              offsets_room = omega (arith, room.offsets_room);
              plane_triangles_room = omega (arith, room.plane_triangles_room);
              plane_words_room = room.plane_words_room;
              plane_floats_room = room.plane_floats_room;
              floats_room = omega (arith, room.floats_room);
              plane_edges_room = omega (arith, room.plane_edges_room);
            };
            few = inside.planes;
            crossings = inside.crossings;
            for_found = record { few = omega (arith, inside.room); floats = omega (arith, room.floats_room); words = omega (arith, room.numbers_room) };
            sane = record {
              rates = inside.rates;
              model = inside.model;
              fit = record { reference = subst T (sym model.1.0.1) tt; least = subst T (sym model.1.1.1.0.1) tt; greatest = subst T (sym model.1.1.1.1.0.1) tt };
            };
            for_list = record {
              few = omega arith;
              keys_room = omega (arith, room.keys_room);
              queue_room = omega (arith, room.queue_room);
              words_room = omega (arith, room.words_room);
              scratch_room = omega (arith, room.scratch_room);
              out_room = room.output_room;
            };
          };
      m_value = none_kept k s (load_said c.load_scene-loaded.result) c.front_of-front.result l.answer c.front_of-front.ensures;
    }

pub shape_of-triangles : goal.shape_of-triangles
shape_of-triangles c = ◌∙◌ {b = length c.load_scene-loaded.new.triangles} c.answer_loaded.auto.triangles c.load_scene-loaded.auto.triangles

pub shape_of-handles : goal.shape_of-handles
shape_of-handles c = ◌∙◌ {b = length c.load_scene-loaded.new.handles} c.answer_loaded.auto.handles c.load_scene-loaded.auto.handles

pub shape_of-tree : goal.shape_of-tree
shape_of-tree c = c.answer_loaded.auto.tree

pub shape_of-nodes : goal.shape_of-nodes
shape_of-nodes c = c.answer_loaded.auto.nodes

pub shape_of-leaf_order : goal.shape_of-leaf_order
shape_of-leaf_order c = c.answer_loaded.auto.leaf_order

pub shape_of-keys : goal.shape_of-keys
shape_of-keys c = c.answer_loaded.auto.keys

pub shape_of-low_keys : goal.shape_of-low_keys
shape_of-low_keys c = c.answer_loaded.auto.low_keys

pub shape_of-words : goal.shape_of-words
shape_of-words c = c.answer_loaded.auto.words

pub shape_of-scratch : goal.shape_of-scratch
shape_of-scratch c = c.answer_loaded.auto.scratch

pub shape_of-index : goal.shape_of-index
shape_of-index c = c.answer_loaded.auto.index

pub shape_of-numbers : goal.shape_of-numbers
shape_of-numbers c = c.answer_loaded.auto.numbers

pub shape_of-adjacency : goal.shape_of-adjacency
shape_of-adjacency c = c.answer_loaded.auto.adjacency

pub shape_of-queue : goal.shape_of-queue
shape_of-queue c = c.answer_loaded.auto.queue

pub shape_of-offsets : goal.shape_of-offsets
shape_of-offsets c = c.answer_loaded.auto.offsets

pub shape_of-floats : goal.shape_of-floats
shape_of-floats c = c.answer_loaded.auto.floats

pub shape_of-plane_triangles : goal.shape_of-plane_triangles
shape_of-plane_triangles c = c.answer_loaded.auto.plane_triangles

pub shape_of-plane_floats : goal.shape_of-plane_floats
shape_of-plane_floats c = c.answer_loaded.auto.plane_floats

pub shape_of-plane_words : goal.shape_of-plane_words
shape_of-plane_words c = c.answer_loaded.auto.plane_words

pub shape_of-plane_edges : goal.shape_of-plane_edges
shape_of-plane_edges c = c.answer_loaded.auto.plane_edges

pub shape_of-out : goal.shape_of-out
shape_of-out c = c.answer_loaded.auto.out

pub returns : goal.returns
returns c = let a = c.args in let st = a.settings in let s = scene a.meshes.now a.transforms.now a.positions.now a.indices.now a.materials.now a.rows_count in
    let w = work a.triangles.now a.handles.now a.tree.now a.nodes.now a.leaf_order.now a.keys.now a.low_keys.now a.words.now a.scratch.now a.index.now a.numbers.now a.adjacency.now a.queue.now a.offsets.now a.floats.now a.plane_triangles.now a.plane_floats.now a.plane_words.now a.plane_edges.now in
    let lens = lengths_of w a.out.now in
    let k = first_refusal st a.c s lens in
    let l = c.load_scene-loaded.ensures in
    let is = front_refusal k s (load_said c.load_scene-loaded.result) c.front_of-front.result l.answer c.front_of-front.ensures in
    let e : early_of k ≡ false = sym (ap (λ (j : ℕ). early_of j) is) ∙ sym
    c.early.ensures ∙ c.if-early.false in
    let left = work c.answer_loaded.new.triangles c.answer_loaded.new.handles c.answer_loaded.new.tree c.answer_loaded.new.nodes c.answer_loaded.new.leaf_order c.answer_loaded.new.keys c.answer_loaded.new.low_keys c.answer_loaded.new.words c.answer_loaded.new.scratch c.answer_loaded.new.index c.answer_loaded.new.numbers c.answer_loaded.new.adjacency
    c.answer_loaded.new.queue c.answer_loaded.new.offsets c.answer_loaded.new.floats c.answer_loaded.new.plane_triangles c.answer_loaded.new.plane_floats c.answer_loaded.new.plane_words
    c.answer_loaded.new.plane_edges in
    traced st a.c s a.source a.listener a.separated c.answer_loaded.result a.out.now c.answer_loaded.new.out w left
    (loaded_answers st a.c s lens a.source a.listener a.separated c.front_of-front.result.refusal c.front_of-front.result.kept c.answer_loaded.result a.out.now c.answer_loaded.new.out is
    (λ none. let fr = fronted k s (load_said c.load_scene-loaded.result) c.front_of-front.result l.answer c.front_of-front.ensures (sym is ∙ none) in fr.kept)
    (c.answer_loaded.ensures.answers_loaded.over s (λ none.
    let fr = fronted k s (load_said c.load_scene-loaded.result) c.front_of-front.result l.answer c.front_of-front.ensures (sym is ∙ none) in
    let there = loaded st a.c s lens a.triangles.now a.handles.now (load_said c.load_scene-loaded.result) c.load_scene-loaded.new.triangles c.load_scene-loaded.new.handles c.front_of-front.result.kept (placings s) c.front_of-front.result.triples fr.loaded l in there) refl))
    (work_cleared k w left (all_zero w left c.answer_loaded.ensures.planes_zero c.answer_loaded.ensures.scene_zero record {
      triangles_same = ◌∙◌ {b = length c.load_scene-loaded.new.triangles} c.answer_loaded.auto.triangles c.load_scene-loaded.auto.triangles;
      handles_same = ◌∙◌ {b = length c.load_scene-loaded.new.handles} c.answer_loaded.auto.handles c.load_scene-loaded.auto.handles;
      tree_same = c.answer_loaded.auto.tree;
      nodes_same = c.answer_loaded.auto.nodes;
      leaf_order_same = c.answer_loaded.auto.leaf_order;
      keys_same = c.answer_loaded.auto.keys;
      low_keys_same = c.answer_loaded.auto.low_keys;
      words_same = c.answer_loaded.auto.words;
      scratch_same = c.answer_loaded.auto.scratch;
      index_same = c.answer_loaded.auto.index;
      numbers_same = c.answer_loaded.auto.numbers;
      adjacency_same = c.answer_loaded.auto.adjacency;
      queue_same = c.answer_loaded.auto.queue;
      offsets_same = c.answer_loaded.auto.offsets;
      floats_same = c.answer_loaded.auto.floats;
      plane_triangles_same = c.answer_loaded.auto.plane_triangles;
      plane_floats_same = c.answer_loaded.auto.plane_floats;
      plane_words_same = c.answer_loaded.auto.plane_words;
      plane_edges_same = c.answer_loaded.auto.plane_edges;
    }) e)

pub front_of-front-requires : goal.front_of-front-requires
front_of-front-requires c = tt

pub early-requires : goal.early-requires
early-requires c = tt

pub refused-requires : goal.refused-requires
refused-requires c = tt
