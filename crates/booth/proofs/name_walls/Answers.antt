-- `booth::name_walls` meets its contract: each area has its length, and the planes have room in theirs.
use Rattle.std.proofs.Common.{ℕ, Result, Ok, Err, ◌≡◌, refl, sym, ◌∙◌}
use Rattle.std.specs.Result.{result_unwrap_or}
use Rattle.refusals.specs.declared.Refusal.{Refusal}
use Rattle.walls.specs.Walls.{count_told}
use Rattle.booth.proofs.name_walls.Goals as goal

pub slice_bounds-planes_of-end : goal.slice_bounds-planes_of-end
slice_bounds-planes_of-end c = sym c.fresh_triangles-triangles.ensures

pub slice_bounds-planes_of-end-2 : goal.slice_bounds-planes_of-end-2
slice_bounds-planes_of-end-2 c = sym c.fresh_handles-handles.ensures

pub slice_bounds-planes_of-end-3 : goal.slice_bounds-planes_of-end-3
slice_bounds-planes_of-end-3 c = sym c.fresh_tree-tree.ensures

pub slice_bounds-planes_of-end-4 : goal.slice_bounds-planes_of-end-4
slice_bounds-planes_of-end-4 c = sym c.fresh_nodes-nodes.ensures

pub slice_bounds-planes_of-end-5 : goal.slice_bounds-planes_of-end-5
slice_bounds-planes_of-end-5 c = sym c.fresh_leaf_order-leaf_order.ensures

pub slice_bounds-planes_of-end-6 : goal.slice_bounds-planes_of-end-6
slice_bounds-planes_of-end-6 c = sym c.fresh_keys-keys.ensures

pub slice_bounds-planes_of-end-7 : goal.slice_bounds-planes_of-end-7
slice_bounds-planes_of-end-7 c = sym c.fresh_low_keys-low_keys.ensures

pub slice_bounds-planes_of-end-8 : goal.slice_bounds-planes_of-end-8
slice_bounds-planes_of-end-8 c = sym c.fresh_words-words.ensures

pub slice_bounds-planes_of-end-9 : goal.slice_bounds-planes_of-end-9
slice_bounds-planes_of-end-9 c = sym c.fresh_scratch-scratch.ensures

pub slice_bounds-planes_of-end-10 : goal.slice_bounds-planes_of-end-10
slice_bounds-planes_of-end-10 c = sym c.fresh_index-index.ensures

pub slice_bounds-planes_of-end-11 : goal.slice_bounds-planes_of-end-11
slice_bounds-planes_of-end-11 c = sym c.fresh_numbers-numbers.ensures

pub slice_bounds-planes_of-end-12 : goal.slice_bounds-planes_of-end-12
slice_bounds-planes_of-end-12 c = sym c.fresh_adjacency-adjacency.ensures

pub slice_bounds-planes_of-end-13 : goal.slice_bounds-planes_of-end-13
slice_bounds-planes_of-end-13 c = sym c.fresh_queue-queue.ensures

pub slice_bounds-planes_of-end-14 : goal.slice_bounds-planes_of-end-14
slice_bounds-planes_of-end-14 c = sym c.fresh_offsets-offsets.ensures

pub slice_bounds-planes_of-end-15 : goal.slice_bounds-planes_of-end-15
slice_bounds-planes_of-end-15 c = sym c.fresh_floats-floats.ensures

pub slice_bounds-planes_of-end-16 : goal.slice_bounds-planes_of-end-16
slice_bounds-planes_of-end-16 c = sym c.fresh_plane_triangles-plane_triangles.ensures

pub slice_bounds-planes_of-end-17 : goal.slice_bounds-planes_of-end-17
slice_bounds-planes_of-end-17 c = sym c.fresh_plane_edges-plane_edges.ensures

pub slice_bounds-describe-end : goal.slice_bounds-describe-end
slice_bounds-describe-end c = sym (c.planes_of.auto.plane_triangles
    ∙ c.fresh_plane_triangles-plane_triangles.ensures)

counted : (answer : Result ℕ Refusal) → result_unwrap_or answer 0 ≡ count_told answer
counted (Ok n) = refl
counted (Err r) = refl

pub describe-requires : goal.describe-requires
describe-requires c = let p = c.planes_of.ensures in rw (c.unwrap_or-planes.ensures, counted c.planes_of.result) (p.floats_room, p.words_room)

pub shape_of-plane_floats : goal.shape_of-plane_floats
shape_of-plane_floats c = c.planes_of.auto.plane_floats

pub shape_of-plane_words : goal.shape_of-plane_words
shape_of-plane_words c = c.planes_of.auto.plane_words

pub shape_of-on : goal.shape_of-on
shape_of-on c = c.describe.auto.on
