-- `planes_patches::coplanar_patches` meets its contract: the loop holds that the areas have the patches of the triangles before t (`Filling`).
use mathlib.Core.Path.{◌∙◌, sym}
use native.Mathlib.Omega.{arith}
use native.Mathlib.Numerals.{add-one}
use lib.ListN.{length}
use Rattle.planes_patches.specs.Triangles.{triangles_in}
use Rattle.planes_patches.proofs.Filling.{filling_all, filling_more, filling_none, triangle_in}
use Rattle.planes_patches.proofs.coplanar_patches.Goals as goal

pub loop-t-init : goal.loop-t-init
loop-t-init c =
    let a = c.args in filling_none (triangles_in a.triangles.now a.handles.now a.n a.m) a.first.now a.m a.rows.now a.of.now a.cells.now c.fill.new.self a.next.now (length a.heads.now) c.requires.heads_len.0 (c.fill.ensures.after (λ y e. e))

pub turn-np-requires : goal.turn-np-requires
turn-np-requires c =
    let f = c.loop-t.invariant in let p = c.requires.n_in_bounds in let q = c.requires.heads_len in let h = c.loop-t-test.true in
    let lr = f.len_rows in let lo = f.len_of in let lc = f.len_cells in let ln = f.len_next in record {
      n_in_bounds = (p.0, p.1, omega arith, omega arith, omega arith);
      patch_floats_in_bounds = (omega arith, omega arith, omega arith, omega arith);
      standing = f.standing;
    }

pub loop-t-preserved : goal.loop-t-preserved
loop-t-preserved c =
    let a = c.args in let ts = triangles_in a.triangles.now a.handles.now a.n a.m in
    rw (add-one c.loop-t.t) (filling_more ts a.first.now a.m a.rows.now a.of.now a.cells.now a.next.now c.loop-t.rows c.loop-t.of c.loop-t.cells c.loop-t.heads c.loop-t.next c.loop-t.t c.loop-t.np
    c.turn-np.new.rows c.turn-np.new.of c.turn-np.new.cells c.turn-np.new.heads c.turn-np.new.next c.turn-np.result
    c.loop-t.invariant c.loop-t-test.true c.turn-np.auto.rows c.turn-np.auto.of c.turn-np.auto.cells c.turn-np.auto.next
    c.turn-np.ensures.standing_2 (c.turn-np.ensures.result_after ts (triangle_in a.triangles.now a.handles.now a.n a.m c.loop-t.t c.loop-t-test.true)) c.turn-np.ensures.by_index c.turn-np.ensures.none_of_after)

pub shape_of-cells : goal.shape_of-cells
shape_of-cells c = c.loop-t.invariant.len_cells

pub shape_of-heads : goal.shape_of-heads
shape_of-heads c = c.loop-t.invariant.standing.grid.buckets ∙ sym c.requires.heads_len.0

pub shape_of-next : goal.shape_of-next
shape_of-next c = c.loop-t.invariant.len_next

pub shape_of-rows : goal.shape_of-rows
shape_of-rows c = c.loop-t.invariant.len_rows

pub shape_of-of : goal.shape_of-of
shape_of-of c = c.loop-t.invariant.len_of

pub returns : goal.returns
returns c =
    let same-length-2 = c.loop-t.invariant.standing.grid.buckets ∙ sym c.requires.heads_len.0 in
    let same-length-3 = c.loop-t.invariant.len_next in
    let same_length = c.loop-t.invariant.len_cells in
    let a = c.args in let all = filling_all a.triangles.now a.handles.now a.n a.first.now a.m a.rows.now a.of.now a.cells.now a.next.now c.loop-t.rows c.loop-t.of c.loop-t.cells c.loop-t.heads c.loop-t.next c.loop-t.t c.loop-t.np c.loop-t.invariant c.loop-t-test.false c.requires.n_in_bounds.2 c.requires.by_index in record {
      result_after = all.0;
      upper_bound = all.1.0;
      by_index_2 = all.1.1;
      rest = (same_length, same-length-2, same-length-3);
    }
