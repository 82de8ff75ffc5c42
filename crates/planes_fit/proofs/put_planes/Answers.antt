-- `planes_fit::put_planes` meets its contract: the rows so far are stored.
use mathlib.Core.Path.{◌∙◌}
use Prim.Native.Nat.{◌+◌}
use native.Mathlib.Omega.{arith}
use lib.ListN.{get_or}
use Rattle.columns.specs.Columns.{triangle_at_of}
use Rattle.planes_fit.specs.Rows.{group_in, plane_row_in}
use Rattle.planes_fit.proofs.Planes.{part_length, placed_more, placed_none, row_small}
use Rattle.planes_fit.proofs.put_planes.Goals as goal

pub loop-g-init : goal.loop-g-init
loop-g-init c = placed_none _ _ _ _

pub offset_bounds-offsets-g : goal.offset_bounds-offsets-g
offset_bounds-offsets-g c =
    omega (arith, c.well_formed, c.requires.grouped.long, c.loop-g-test.true)

pub bounds-offsets-g : goal.bounds-offsets-g
bounds-offsets-g c = omega (arith, c.requires.grouped.long, c.loop-g-test.true)

pub overflow_cast-from : goal.overflow_cast-from
overflow_cast-from c = omega (arith, c.shared_slice_known-in-loop-g-1.given c.loop-g.g)

pub overflow_add-to : goal.overflow_add-to
overflow_add-to c =
    omega (arith, c.well_formed, c.requires.grouped.long, c.loop-g-test.true)

pub offset_bounds-offsets-g-in-loop-g : goal.offset_bounds-offsets-g-in-loop-g
offset_bounds-offsets-g-in-loop-g c =
    omega (arith, c.well_formed, c.requires.grouped.long, c.loop-g-test.true)

pub bounds-offsets-g-in-loop-g : goal.bounds-offsets-g-in-loop-g
bounds-offsets-g-in-loop-g c = omega (arith, c.requires.grouped.long, c.loop-g-test.true)

pub overflow_cast-to : goal.overflow_cast-to
overflow_cast-to c = omega (arith, c.shared_slice_known-in-loop-g-2-1.given (c.loop-g.g + 1))

pub offset_bounds-mstarts-g : goal.offset_bounds-mstarts-g
offset_bounds-mstarts-g c =
    omega (arith, c.well_formed, c.requires.runs.long, c.loop-g-test.true)

pub bounds-mstarts-g : goal.bounds-mstarts-g
bounds-mstarts-g c = omega (arith, c.requires.runs.long, c.loop-g-test.true)

pub overflow_cast-first : goal.overflow_cast-first
overflow_cast-first c = omega (arith, c.shared_slice_known-in-loop-g-3-1.given c.loop-g.g)

pub overflow_add-end : goal.overflow_add-end
overflow_add-end c =
    omega (arith, c.well_formed, c.requires.runs.long, c.loop-g-test.true)

pub offset_bounds-mstarts-g-in-loop-g : goal.offset_bounds-mstarts-g-in-loop-g
offset_bounds-mstarts-g-in-loop-g c =
    omega (arith, c.well_formed, c.requires.runs.long, c.loop-g-test.true)

pub bounds-mstarts-g-in-loop-g : goal.bounds-mstarts-g-in-loop-g
bounds-mstarts-g-in-loop-g c = omega (arith, c.requires.runs.long, c.loop-g-test.true)

pub overflow_cast-end : goal.overflow_cast-end
overflow_cast-end c = omega (arith, c.shared_slice_known-in-loop-g-4-1.given (c.loop-g.g + 1))

pub offset_bounds-queue-from : goal.offset_bounds-queue-from
offset_bounds-queue-from c =
    omega (
      arith,
      c.well_formed,
      c.requires.grouped.rise _ c.loop-g-test.true,
      c.requires.grouped.ends (c.loop-g.g + 1) (omega (arith, c.loop-g-test.true)),
    )

pub slice_bounds-group-count : goal.slice_bounds-group-count
slice_bounds-group-count c = omega (arith, c.requires.grouped.rise _ c.loop-g-test.true)

pub slice_bounds-group-start : goal.slice_bounds-group-start
slice_bounds-group-start c = omega (arith, c.requires.grouped.rise _ c.loop-g-test.true)

pub slice_bounds-group-end : goal.slice_bounds-group-end
slice_bounds-group-end c = c.requires.grouped.ends (c.loop-g.g + 1) (omega (arith, c.loop-g-test.true))

pub offset_bounds-plane_triangles-first : goal.offset_bounds-plane_triangles-first
offset_bounds-plane_triangles-first c =
    omega (
      arith,
      c.well_formed,
      c.requires.runs.fenced.rise _ c.loop-g-test.true,
      c.requires.runs.fenced.ends (c.loop-g.g + 1) (omega (arith, c.loop-g-test.true)),
    )

pub slice_bounds-tris-count : goal.slice_bounds-tris-count
slice_bounds-tris-count c = omega (arith, c.requires.runs.fenced.rise _ c.loop-g-test.true)

pub slice_bounds-tris-start : goal.slice_bounds-tris-start
slice_bounds-tris-start c = omega (arith, c.requires.runs.fenced.rise _ c.loop-g-test.true)

pub slice_bounds-tris-end : goal.slice_bounds-tris-end
slice_bounds-tris-end c = c.requires.runs.fenced.ends (c.loop-g.g + 1) (omega (arith, c.loop-g-test.true))

pub plane_row-r-requires : goal.plane_row-r-requires
plane_row-r-requires c =
    let p = c.requires in
    let t = c.loop-g-test.true in
    let rise = p.grouped.rise _ t in
    let ends = p.grouped.ends (c.loop-g.g + 1) (omega (arith, t)) in
    let long = part_length c.args.queue.now (get_or c.args.offsets.now c.loop-g.g 0) (get_or c.args.offsets.now (c.loop-g.g + 1) 0) ends in record {
      n_in_bounds = p.n_in_bounds.0;
      n_in_bounds_2 = p.n_in_bounds.1;
      np_in_bounds = p.n_in_bounds.2;
      below = p.grouped.below _ t;
      group_nonzero = omega arith;
      below_2 = p.runs.below _ t;
    }

pub put_plane-requires : goal.put_plane-requires
put_plane-requires c =
    let a = c.args in
    let g = c.loop-g.g in
    let p = c.requires in
    let t = c.loop-g-test.true in
    let i = c.loop-g.invariant in
    let r = p.runs in
    let rise = r.fenced.rise _ t in
    let ends = r.fenced.ends (c.loop-g.g + 1) (omega (arith, t)) in
    let low = c.shared_slice_known-in-loop-g-3-1.given g in
    let high = c.shared_slice_known-in-loop-g-4-1.given (g + 1) in
    let long = part_length c.args.plane_triangles.now (get_or c.args.mstarts.now c.loop-g.g 0) (get_or c.args.mstarts.now (c.loop-g.g + 1) 0) ends in record {
      plane_floats_in_bounds = omega (arith, p.ng_in_bounds.0, t, i.len_floats);
      plane_words_in_bounds = omega (arith, p.ng_in_bounds.1, t, i.len_words);
      small = row_small (triangle_at_of a.triangles.now a.handles.now a.n) a.rows.now (group_in a.queue.now a.offsets.now g) (group_in a.plane_triangles.now a.mstarts.now g) (get_or a.mstarts.now g 0) c.plane_row-r.result
          c.plane_row-r.ensures (omega arith) (omega arith);
    }

pub loop-g-preserved : goal.loop-g-preserved
unfolding plane_row_in
loop-g-preserved c = placed_more _ _ _ _ _ _ _ _ _ c.loop-g.invariant c.loop-g-test.true c.put_plane.auto.plane_floats
    c.put_plane.auto.plane_words (c.put_plane.ensures.g_after ∙ c.plane_row-r.ensures) c.put_plane.ensures.by_index

pub shape_of-group_floats : goal.shape_of-group_floats
shape_of-group_floats c = c.loop-g.invariant.len_floats

pub shape_of-group_words : goal.shape_of-group_words
shape_of-group_words c = c.loop-g.invariant.len_words

pub returns : goal.returns
returns c = λ g h. c.loop-g.invariant.done g (omega (arith, h, c.loop-g-test.false))
