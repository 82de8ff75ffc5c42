-- `planes_patches::put_row` meets its contract: five stores, of which none undoes another (`row_stored`, `row_other`).
use mathlib.Core.Path.{◌∙◌}
use Prim.Native.Nat.{◌*◌, ◌+◌}
use native.Mathlib.Omega.{arith}
use lib.Seq.{lt-length-set}
use lib.ListN.{length-set, set}
use Rattle.planes_patches.specs.Rows.{patch_floats}
use Rattle.planes_patches.proofs.Stores.{row_other, row_stored}
use Rattle.planes_patches.proofs.put_row.Goals as goal

pub bounds-rows-at-2 : goal.bounds-rows-at-2
bounds-rows-at-2 c = let a = c.args in let k = c.put_vec.auto.rows in lt-length-set c.put_vec.new.rows (patch_floats * a.p + 3) a.r.offset (omega arith)

pub put_vec-requires-2 : goal.put_vec-requires-2
put_vec-requires-2 c = let a = c.args in let k = c.put_vec.auto.rows in
    let s = length-set c.put_vec.new.rows (patch_floats * a.p + 3) a.r.offset in
    let t = length-set (set c.put_vec.new.rows (patch_floats * a.p + 3) a.r.offset) (patch_floats * a.p + 4) a.r.area in omega arith

pub put_vec-requires-3 : goal.put_vec-requires-3
put_vec-requires-3 c =
    let a = c.args in let k = c.put_vec.auto.rows in
    let s = length-set c.put_vec.new.rows (patch_floats * a.p + 3) a.r.offset in
    let t = length-set (set c.put_vec.new.rows (patch_floats * a.p + 3) a.r.offset) (patch_floats * a.p + 4) a.r.area in
    let u = c.put_vec-2.auto.rows in omega arith

pub shape_of-rows : goal.shape_of-rows
shape_of-rows c =
    let a = c.args in
    c.put_vec-3.auto.rows ∙ c.put_vec-2.auto.rows ∙ length-set (set c.put_vec.new.rows (patch_floats * a.p + 3) a.r.offset) (patch_floats * a.p + 4) a.r.area ∙ length-set c.put_vec.new.rows (patch_floats * a.p + 3) a.r.offset ∙ c.put_vec.auto.rows

pub returns : goal.returns
returns c =
    let a = c.args in let p = a.p in let r = a.r in
    let l0 = a.rows.now in let l1 = c.put_vec.new.rows in let l4 = c.put_vec-2.new.rows in let l5 = c.put_vec-3.new.rows in record {
      p_after = row_stored l0 l1 l4 l5 p r c.put_vec.auto.rows c.requires c.put_vec.ensures.at_after c.put_vec-2.ensures.at_after c.put_vec-3.ensures.at_after c.put_vec-2.ensures.beside c.put_vec-3.ensures.beside;
      by_index = row_other l0 l1 l4 l5 p r
          c.put_vec.ensures.beside c.put_vec-2.ensures.beside c.put_vec-3.ensures.beside;
    }
