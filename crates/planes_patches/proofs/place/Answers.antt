-- `planes_patches::place` meets its contract: by the laws of `Turns` for a triangle that joins a patch and one that starts one.
use mathlib.Core.Path.{◌∙◌, sym}
use Prim.Native.Nat.{◌*◌, ◌+◌, ◌<◌, ◌≤◌}
use native.Mathlib.Omega.{arith}
use native.Mathlib.Numerals.{add-one}
use lib.Seq.{get_or-set_other}
use lib.ListN.{length}
use Rattle.planes_patches.specs.Rows.{none_of, patch_floats}
use Rattle.planes_patches.specs.Grid.{key}
use Rattle.planes_patches.proofs.Buckets.{head_low}
use Rattle.planes_patches.proofs.Turns.{joined_patches, joined_standing, new_patches, new_standing}
use Rattle.planes_patches.proofs.place.Goals as goal

pub triangle_at-tri-requires : goal.triangle_at-tri-requires
triangle_at-tri-requires c = let p = c.requires.n_in_bounds in (p.0, p.1, p.2)

pub found-p-requires : goal.found-p-requires
found-p-requires c = record {
  grid = c.requires.standing.grid;
  x_bound = c.plane_key-k.ensures.x_bound;
}

pub join_patch-requires : goal.join_patch-requires
join_patch-requires c =
    let p = c.requires.patch_floats_in_bounds in let f = c.requires.standing.few in let t = c.if-p-np.true in omega arith

pub overflow_cast-of : goal.overflow_cast-of
overflow_cast-of c =
    let p = c.requires.n_in_bounds in let f = c.requires.standing.few in let t = c.if-p-np.true in omega arith

pub offset_bounds-of-t : goal.offset_bounds-of-t
offset_bounds-of-t c = let p = c.requires.n_in_bounds.3 in omega arith

pub bounds-of-t : goal.bounds-of-t
bounds-of-t c = c.requires.patch_floats_in_bounds.3

pub returns-then-p-np : goal.returns-then-p-np
returns-then-p-np c =
    let a = c.args in let s = c.requires.standing in record {
      standing_2 = joined_standing a.rows.now a.of.now a.cells.now a.heads.now a.next.now a.t a.np c.found-p.result c.triangle_at-tri.result c.plane_key-k.result s c.requires.patch_floats_in_bounds.3 c.plane_key-k.ensures.value c.found-p.ensures c.join_patch.new.rows
          c.if-p-np.true c.join_patch.auto.rows c.join_patch.ensures.p_after c.join_patch.ensures.by_index;
      result_after = λ ts w. joined_patches a.rows.now a.of.now a.cells.now a.heads.now a.next.now a.t a.np c.found-p.result c.triangle_at-tri.result c.plane_key-k.result s c.requires.patch_floats_in_bounds.3 c.plane_key-k.ensures.value c.found-p.ensures c.join_patch.new.rows
          c.if-p-np.true c.join_patch.auto.rows c.join_patch.ensures.p_after c.join_patch.ensures.by_index ts (w ∙ sym c.triangle_at-tri.ensures);
      by_index = λ i d. get_or-set_other a.of.now a.t i c.found-p.result none_of d;
    }

pub new_patch-requires : goal.new_patch-requires
new_patch-requires c =
    let p = c.requires.patch_floats_in_bounds in let f = c.requires.standing.few in record {
      patch_floats_in_bounds = omega arith;
      k_value = c.plane_key-k.ensures.value;
    }

pub put_in_grid-requires : goal.put_in_grid-requires
put_in_grid-requires c =
    let k = c.plane_key-k.result in let p = c.requires.patch_floats_in_bounds in let q = c.requires.n_in_bounds in let f = c.requires.standing.few in (omega arith, c.requires.standing.grid.buckets, omega arith, omega arith, head_low c.requires.standing.grid (key k.x k.y k.z))

pub overflow_cast-of-2 : goal.overflow_cast-of-2
overflow_cast-of-2 c =
    let p = c.requires.n_in_bounds in let f = c.requires.standing.few in omega arith

pub offset_bounds-of-t-2 : goal.offset_bounds-of-t-2
offset_bounds-of-t-2 c = let p = c.requires.n_in_bounds.3 in omega arith

pub bounds-of-t-2 : goal.bounds-of-t-2
bounds-of-t-2 c = c.requires.patch_floats_in_bounds.3

pub overflow_add-result : goal.overflow_add-result
overflow_add-result c =
    let p = c.requires.n_in_bounds in let f = c.requires.standing.few in omega arith

pub returns : goal.returns
returns c =
    let a = c.args in let s = c.requires.standing in let f = s.few in let p = c.requires.patch_floats_in_bounds in let q = c.requires.n_in_bounds.3 in
    let lr = c.new_patch.auto.rows in let lc = c.put_in_grid.auto.cells in
    let rr : patch_floats * a.np + patch_floats ≤ length c.new_patch.new.rows = omega arith in
    let rc : 3 * a.np + 3 ≤ length c.put_in_grid.new.cells = omega arith in
    let rn : a.np < length a.next.now = omega arith in
    rw (add-one a.np) record {
      standing_2 = new_standing a.rows.now a.of.now a.cells.now a.heads.now a.next.now a.t a.np c.found-p.result c.triangle_at-tri.result c.plane_key-k.result s p.3 c.plane_key-k.ensures.value c.found-p.ensures c.new_patch.new.rows c.put_in_grid.new.cells c.if-p-np.false q rr rc rn
          c.new_patch.ensures.p_after c.new_patch.ensures.by_index c.put_in_grid.ensures.p_after c.put_in_grid.ensures.by_index c.put_in_grid.new.heads
          c.put_in_grid.new.next c.put_in_grid.ensures.heads_after c.put_in_grid.ensures.next_after;
      result_after = λ ts w. new_patches a.rows.now a.of.now a.cells.now a.heads.now a.next.now a.t a.np c.found-p.result c.triangle_at-tri.result c.plane_key-k.result s p.3 c.plane_key-k.ensures.value c.found-p.ensures c.new_patch.new.rows
          c.put_in_grid.new.cells c.if-p-np.false q rr rc rn
          c.new_patch.ensures.p_after c.new_patch.ensures.by_index c.put_in_grid.ensures.p_after c.put_in_grid.ensures.by_index ts (w ∙ sym c.triangle_at-tri.ensures);
      by_index = λ i d. get_or-set_other a.of.now a.t i a.np none_of d;
    }

pub plane_key-k-requires : goal.plane_key-k-requires
plane_key-k-requires c = tt
