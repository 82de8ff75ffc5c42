-- `search::search_images` meets its contract: with no planes at once, else by the end of the recursion.
use mathlib.Core.Path.{refl}
use mathlib.Core.List.{[], ◌∷◌}
use native.Mathlib.Omega.{arith}
use native.Mathlib.Nat.{pos_of_ne-zero}
use Rattle.mirror.specs.Rows.{planes_in}
use Rattle.sequences.specs.Allowed.{most}
use Rattle.search.specs.Outcome.{on_bytes, outcomes_of}
use Rattle.search.specs.declared.Task.{Task}
use Rattle.search.specs.Contract.{State, search_areas, state}
use Rattle.search.proofs.Ends.{Fresh, searched_none, sound_fresh, searched_all}
use Rattle.search.proofs.search_images.Goals as goal

pub returns-then-order-eq0 : goal.returns-then-order-eq0
returns-then-order-eq0 c = let a = c.args in record {
  searched = λ tri t h. searched_none (on_bytes (planes_in a.planes.now.floats.now a.planes.now.words.now a.planes.now.members.now a.planes.now.edges.now a.planes.now.count) a.source) a.order a.room (outcomes_of a.settings (planes_in a.planes.now.floats.now a.planes.now.words.now a.planes.now.members.now a.planes.now.edges.now a.planes.now.count) tri t a.materials.now a.source a.listener)
      a.candidate_floats.now a.candidate_words.now c.if-order-eq0.true;
  few = omega arith;
  rest = (refl, refl);
}

pub expand_images-s-requires : goal.expand_images-s-requires
expand_images-s-requires c =
    let a = c.args in
    let pre = c.requires in
    let b = c.first_images-images.ensures in
    let q : Task = record { listener = a.listener; beyond = c.square_beyond-beyond.result; order = a.order; room = a.room; source = a.source; limit = most; settings = a.settings } in
    let s : State = (state (0 ∷ 0 ∷ 0 ∷ 0 ∷ 0 ∷ 0 ∷ 0 ∷ 0 ∷ []) c.first_images-images.result (record { nodes = 0; rays = 0; found = 0; over = 0 })) in
    let new : Fresh q s = record { seq_room = refl; images_room = b.1; image = b.0; no_nodes = refl; no_rays = refl; no_found = refl; not_over = refl } in
    let some = pos_of_ne-zero c.if-order-eq0.false in
    record {
      deep = omega (arith, some);
      within = pre.order_le_max_order.0;
      small = pre.order_le_max_order.1;
      bound = omega arith;
      crossings = pre.order_le_max_order.2;
      far = c.square_beyond-beyond.ensures;
      lent = pre.scene_lent;
      room = pre.candidate_rows;
      sound = sound_fresh (search_areas a.bvh.now a.materials.now a.planes.now) q s new;
    }

pub shape_of-candidate_floats : goal.shape_of-candidate_floats
shape_of-candidate_floats c = c.expand_images-s.auto.candidate_floats

pub shape_of-candidate_words : goal.shape_of-candidate_words
shape_of-candidate_words c = c.expand_images-s.auto.candidate_words

pub returns : goal.returns
returns c =
    let same-length-2 = c.expand_images-s.auto.candidate_words in
    let same_length = c.expand_images-s.auto.candidate_floats in
    let a = c.args in
    let b = c.first_images-images.ensures in
    let q : Task = record { listener = a.listener; beyond = c.square_beyond-beyond.result; order = a.order; room = a.room; source = a.source; limit = most; settings = a.settings } in
    let s : State = (state (0 ∷ 0 ∷ 0 ∷ 0 ∷ 0 ∷ 0 ∷ 0 ∷ 0 ∷ []) c.first_images-images.result (record { nodes = 0; rays = 0; found = 0; over = 0 })) in
    let new : Fresh q s = record { seq_room = refl; images_room = b.1; image = b.0; no_nodes = refl; no_rays = refl; no_found = refl; not_over = refl } in record {
      searched = searched_all (search_areas a.bvh.now a.materials.now a.planes.now) q s new a.candidate_floats.now c.expand_images-s.new.candidate_floats a.candidate_words.now
          c.expand_images-s.new.candidate_words (state c.expand_images-s.new.seq c.expand_images-s.new.images c.expand_images-s.result) refl c.expand_images-s.ensures;
      few = c.expand_images-s.ensures.sound.few;
      rest = (same_length, same-length-2);
    }

pub square_beyond-beyond-requires : goal.square_beyond-beyond-requires
square_beyond-beyond-requires c = tt

pub first_images-images-requires : goal.first_images-images-requires
first_images-images-requires c = tt
