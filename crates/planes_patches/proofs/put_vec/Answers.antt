-- `planes_patches::put_vec` meets its contract: three stores.
use Prim.Native.Nat.{◌+◌}
use native.Mathlib.Omega.{arith}
use lib.Seq.{lt-length-set}
use lib.ListN.{length-set, set}
use Rattle.planes_patches.proofs.Stores.{vec_beside, vec_stored}
use Rattle.planes_patches.proofs.put_vec.Goals as goal

pub bounds-rows-at-2 : goal.bounds-rows-at-2
bounds-rows-at-2 c = let a = c.args in lt-length-set a.rows.now a.at a.v.x (omega arith)

pub bounds-rows-at-3 : goal.bounds-rows-at-3
bounds-rows-at-3 c = let a = c.args in lt-length-set (set a.rows.now a.at a.v.x) (a.at + 1) a.v.y (lt-length-set a.rows.now a.at a.v.x (omega arith))

pub shape_of-rows : goal.shape_of-rows
shape_of-rows c = simp length-set

pub returns : goal.returns
returns c = record {
  at_after = vec_stored c.args.rows.now c.args.at c.args.v c.requires;
  beside = vec_beside c.args.rows.now c.args.at c.args.v;
}
