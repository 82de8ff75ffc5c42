-- `bvh::build_tree` meets its contract: over the extents, the tree of `build_sah` is that of the triangles (`stands`).
use mathlib.Core.Path.{refl, sym, ◌∙◌}
use native.Mathlib.Omega.{arith}
use lib.ListN.{length}
use Rattle.bvh.proofs.Laws as law
use Rattle.bvh.specs.Bvh.{centroid_in}
use Rattle.bvh.proofs.build_tree.Goals as goal

pub put_extents-requires : goal.put_extents-requires
put_extents-requires c = let L = c.requires in (L.wide, L.named, L.fewer, L.extents_room)

pub overflow_mul-two : goal.overflow_mul-two
overflow_mul-two c = let L = c.requires in let few = L.few in omega arith

pub overflow_mul-three : goal.overflow_mul-three
overflow_mul-three c = let L = c.requires in let few = L.few in omega arith

pub put_all_keys-requires : goal.put_all_keys-requires
put_all_keys-requires c = let L = c.requires in record {
  n_in_bounds = (L.wide, L.named, L.fewer);
  count_in_bounds = L.keys_room;
}

pub count_up-requires : goal.count_up-requires
count_up-requires c = let few = c.requires.few in omega arith

pub slice_bounds-build_sah-count : goal.slice_bounds-build_sah-count
slice_bounds-build_sah-count c =
    let few = c.requires.few in
    let room = c.requires.keys_room in
    let long = c.put_all_keys.auto.keys in
    omega arith

pub slice_bounds-build_sah-start : goal.slice_bounds-build_sah-start
slice_bounds-build_sah-start c =
    let few = c.requires.few in
    let room = c.requires.keys_room in
    let long = c.put_all_keys.auto.keys in
    omega arith

pub slice_bounds-build_sah-end : goal.slice_bounds-build_sah-end
slice_bounds-build_sah-end c =
    let few = c.requires.few in
    let room = c.requires.keys_room in
    let long = c.put_all_keys.auto.keys in
    omega arith

pub offset_bounds-keys-count : goal.offset_bounds-keys-count
offset_bounds-keys-count c =
    let few = c.requires.few in
    let room = c.requires.keys_room in
    let long = c.put_all_keys.auto.keys in
    omega arith

pub slice_bounds-build_sah-count-then-put_all_keys : goal.slice_bounds-build_sah-count-then-put_all_keys
slice_bounds-build_sah-count-then-put_all_keys c =
    let few = c.requires.few in
    let room = c.requires.keys_room in
    let long = c.put_all_keys.auto.keys in
    omega arith

pub slice_bounds-build_sah-start-then-put_all_keys : goal.slice_bounds-build_sah-start-then-put_all_keys
slice_bounds-build_sah-start-then-put_all_keys c =
    let few = c.requires.few in
    let room = c.requires.keys_room in
    let long = c.put_all_keys.auto.keys in
    omega arith

pub slice_bounds-build_sah-end-then-put_all_keys : goal.slice_bounds-build_sah-end-then-put_all_keys
slice_bounds-build_sah-end-then-put_all_keys c =
    let few = c.requires.few in
    let room = c.requires.keys_room in
    let long = c.put_all_keys.auto.keys in
    omega arith

pub offset_bounds-keys-two : goal.offset_bounds-keys-two
offset_bounds-keys-two c =
    let few = c.requires.few in
    let room = c.requires.keys_room in
    let long = c.put_all_keys.auto.keys in
    omega arith

pub slice_bounds-build_sah-count-then-put_all_keys-2 : goal.slice_bounds-build_sah-count-then-put_all_keys-2
slice_bounds-build_sah-count-then-put_all_keys-2 c =
    let few = c.requires.few in
    let room = c.requires.keys_room in
    let long = c.put_all_keys.auto.keys in
    omega arith

pub slice_bounds-build_sah-start-then-put_all_keys-2 : goal.slice_bounds-build_sah-start-then-put_all_keys-2
slice_bounds-build_sah-start-then-put_all_keys-2 c =
    let few = c.requires.few in
    let room = c.requires.keys_room in
    let long = c.put_all_keys.auto.keys in
    omega arith

pub slice_bounds-build_sah-end-then-put_all_keys-2 : goal.slice_bounds-build_sah-end-then-put_all_keys-2
slice_bounds-build_sah-end-then-put_all_keys-2 c =
    let few = c.requires.few in
    let room = c.requires.keys_room in
    let long = c.put_all_keys.auto.keys in
    omega arith

pub build_sah-requires : goal.build_sah-requires
build_sah-requires c =
    let a = c.args in
    let L = c.requires in
    let m = length a.leaf_order.now in
    let ee = c.put_extents.auto.extents in
    let ek = c.put_all_keys.auto.keys in
    let ep = c.count_up.auto.index in
    let some = L.some in
    let r1 = L.extents_room in
    let r2 = L.keys_room in
    let r5 = L.boxes_room in
    let r6 = L.nodes_room in
    let few = L.few in record {
      listed = record { wide = omega arith; few = few; some = some; within = omega arith; size = ep; inside = (law.counted _ _ c.count_up.ensures).1 };
      sorts = record {
        keyed = law.keyed_in c.put_extents.new.extents (centroid_in a.triangles.now a.handles.now a.n) m c.put_all_keys.new.keys
            (λ i h. (c.put_extents.ensures i h).1) (omega arith) (c.put_all_keys.ensures.1 c.if-put_all_keys.true);
        words_room = L.words_room;
        scratch_room = L.scratch_room;
        areas_room = L.areas_room;
      };
      room = record { boxes_room = omega arith; nodes_room = omega arith; small = omega arith };
    }

pub shape_of-extents-then-put_all_keys : goal.shape_of-extents-then-put_all_keys
shape_of-extents-then-put_all_keys c = c.put_extents.auto.extents

pub shape_of-keys-then-put_all_keys : goal.shape_of-keys-then-put_all_keys
shape_of-keys-then-put_all_keys c = c.put_all_keys.auto.keys

pub shape_of-leaf_order-then-put_all_keys : goal.shape_of-leaf_order-then-put_all_keys
shape_of-leaf_order-then-put_all_keys c = c.build_sah.auto.leaf_order ∙ c.count_up.auto.index

pub shape_of-words-then-put_all_keys : goal.shape_of-words-then-put_all_keys
shape_of-words-then-put_all_keys c = c.build_sah.auto.words

pub shape_of-scratch-then-put_all_keys : goal.shape_of-scratch-then-put_all_keys
shape_of-scratch-then-put_all_keys c = c.build_sah.auto.scratch

pub shape_of-areas-then-put_all_keys : goal.shape_of-areas-then-put_all_keys
shape_of-areas-then-put_all_keys c = c.build_sah.auto.areas

pub shape_of-boxes-then-put_all_keys : goal.shape_of-boxes-then-put_all_keys
shape_of-boxes-then-put_all_keys c = c.build_sah.auto.boxes

pub shape_of-nodes-then-put_all_keys : goal.shape_of-nodes-then-put_all_keys
shape_of-nodes-then-put_all_keys c = c.build_sah.auto.nodes

pub returns-then-put_all_keys : goal.returns-then-put_all_keys
returns-then-put_all_keys c =
    let a = c.args in
    let L = c.requires in
    let m = length a.leaf_order.now in
    let eb = c.build_sah.auto.boxes in
    let en = c.build_sah.auto.nodes in
    let r5 = L.boxes_room in
    let r6 = L.nodes_room in
    record {
      built = λ _. law.stands a.triangles.now a.handles.now a.n m c.build_sah.result c.put_extents.new.extents c.count_up.new.index c.build_sah.new.leaf_order
          a.boxes.now c.build_sah.new.boxes a.nodes.now c.build_sah.new.nodes c.put_extents.ensures
          c.count_up.auto.index (c.build_sah.auto.leaf_order ∙ c.count_up.auto.index) (law.counted _ _ c.count_up.ensures).0 (law.counted _ _ c.count_up.ensures).1 (omega arith)
          (omega arith) c.build_sah.ensures.built;
      none = λ f. law.not_both (sym f ∙ sym c.put_all_keys.ensures.0
          ∙ c.if-put_all_keys.true);
    }

pub shape_of-extents : goal.shape_of-extents
shape_of-extents c = c.put_extents.auto.extents

pub shape_of-keys : goal.shape_of-keys
shape_of-keys c = c.put_all_keys.auto.keys

pub returns : goal.returns
returns c =
    record {
      built = λ f. law.not_both (sym c.if-put_all_keys.false ∙ c.put_all_keys.ensures.0 ∙ f);
      none = λ _. refl;
    }
