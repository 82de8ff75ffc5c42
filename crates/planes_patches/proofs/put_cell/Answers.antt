-- `planes_patches::put_cell` meets its contract: three stores.
use Prim.Native.Nat.{◌*◌, ◌+◌}
use native.Mathlib.Omega.{arith}
use lib.Seq.{lt-length-set}
use lib.ListN.{length-set, set}
use Rattle.planes_patches.proofs.Stores.{cell_other, cell_stored}
use Rattle.planes_patches.proofs.put_cell.Goals as goal

pub bounds-cells-at-2 : goal.bounds-cells-at-2
bounds-cells-at-2 c = let a = c.args in lt-length-set a.cells.now (3 * a.p) a.x (omega arith)

pub bounds-cells-at-3 : goal.bounds-cells-at-3
bounds-cells-at-3 c = let a = c.args in lt-length-set (set a.cells.now (3 * a.p) a.x) (3 * a.p + 1) a.y (lt-length-set a.cells.now (3 * a.p) a.x (omega arith))

pub shape_of-cells : goal.shape_of-cells
shape_of-cells c = simp length-set

pub returns : goal.returns
returns c = let a = c.args in record {
  p_after = cell_stored a.cells.now a.p a.x a.y a.z c.requires;
  by_index = cell_other a.cells.now a.p a.x a.y a.z;
}
