-- `booth::trace` meets its contract: each area has its length.
use mathlib.Core.Path.{sym}
use Rattle.booth.proofs.trace.Goals as goal

pub slice_bounds-trace_early_reflections-end : goal.slice_bounds-trace_early_reflections-end
slice_bounds-trace_early_reflections-end c = sym c.fresh_triangles-triangles.ensures

pub slice_bounds-trace_early_reflections-end-2 : goal.slice_bounds-trace_early_reflections-end-2
slice_bounds-trace_early_reflections-end-2 c = sym c.fresh_handles-handles.ensures

pub slice_bounds-trace_early_reflections-end-3 : goal.slice_bounds-trace_early_reflections-end-3
slice_bounds-trace_early_reflections-end-3 c = sym c.fresh_tree-tree.ensures

pub slice_bounds-trace_early_reflections-end-4 : goal.slice_bounds-trace_early_reflections-end-4
slice_bounds-trace_early_reflections-end-4 c = sym c.fresh_nodes-nodes.ensures

pub slice_bounds-trace_early_reflections-end-5 : goal.slice_bounds-trace_early_reflections-end-5
slice_bounds-trace_early_reflections-end-5 c = sym c.fresh_leaf_order-leaf_order.ensures

pub slice_bounds-trace_early_reflections-end-6 : goal.slice_bounds-trace_early_reflections-end-6
slice_bounds-trace_early_reflections-end-6 c = sym c.fresh_keys-keys.ensures

pub slice_bounds-trace_early_reflections-end-7 : goal.slice_bounds-trace_early_reflections-end-7
slice_bounds-trace_early_reflections-end-7 c = sym c.fresh_low_keys-low_keys.ensures

pub slice_bounds-trace_early_reflections-end-8 : goal.slice_bounds-trace_early_reflections-end-8
slice_bounds-trace_early_reflections-end-8 c = sym c.fresh_words-words.ensures

pub slice_bounds-trace_early_reflections-end-9 : goal.slice_bounds-trace_early_reflections-end-9
slice_bounds-trace_early_reflections-end-9 c = sym c.fresh_scratch-scratch.ensures

pub slice_bounds-trace_early_reflections-end-10 : goal.slice_bounds-trace_early_reflections-end-10
slice_bounds-trace_early_reflections-end-10 c = sym c.fresh_index-index.ensures

pub slice_bounds-trace_early_reflections-end-11 : goal.slice_bounds-trace_early_reflections-end-11
slice_bounds-trace_early_reflections-end-11 c = sym c.fresh_numbers-numbers.ensures

pub slice_bounds-trace_early_reflections-end-12 : goal.slice_bounds-trace_early_reflections-end-12
slice_bounds-trace_early_reflections-end-12 c = sym c.fresh_adjacency-adjacency.ensures

pub slice_bounds-trace_early_reflections-end-13 : goal.slice_bounds-trace_early_reflections-end-13
slice_bounds-trace_early_reflections-end-13 c = sym c.fresh_queue-queue.ensures

pub slice_bounds-trace_early_reflections-end-14 : goal.slice_bounds-trace_early_reflections-end-14
slice_bounds-trace_early_reflections-end-14 c = sym c.fresh_offsets-offsets.ensures

pub slice_bounds-trace_early_reflections-end-15 : goal.slice_bounds-trace_early_reflections-end-15
slice_bounds-trace_early_reflections-end-15 c = sym c.fresh_floats-floats.ensures

pub slice_bounds-trace_early_reflections-end-16 : goal.slice_bounds-trace_early_reflections-end-16
slice_bounds-trace_early_reflections-end-16 c = sym c.fresh_plane_triangles-plane_triangles.ensures

pub slice_bounds-trace_early_reflections-end-17 : goal.slice_bounds-trace_early_reflections-end-17
slice_bounds-trace_early_reflections-end-17 c = sym c.fresh_plane_floats-plane_floats.ensures

pub slice_bounds-trace_early_reflections-end-18 : goal.slice_bounds-trace_early_reflections-end-18
slice_bounds-trace_early_reflections-end-18 c = sym c.fresh_plane_words-plane_words.ensures

pub slice_bounds-trace_early_reflections-end-19 : goal.slice_bounds-trace_early_reflections-end-19
slice_bounds-trace_early_reflections-end-19 c = sym c.fresh_plane_edges-plane_edges.ensures

pub shape_of-out : goal.shape_of-out
shape_of-out c = c.trace_early_reflections.auto.out
