-- `columns::put_vec` meets its contract: three stores, one to a column (`vec_stored`).
use mathlib.Core.Path.{refl}
use native.Mathlib.Omega.{arith}
use lib.ListN.{length-set}
use Rattle.columns.proofs.Storing.{vec_stored}
use Rattle.columns.proofs.put_vec.Goals as goal

pub bounds-triangles-p-2 : goal.bounds-triangles-p-2
bounds-triangles-p-2 c = simp length-set (omega arith)

pub bounds-triangles-p-3 : goal.bounds-triangles-p-3
bounds-triangles-p-3 c = simp length-set (omega arith)

pub shape_of-triangles : goal.shape_of-triangles
shape_of-triangles c = simp length-set refl

pub returns : goal.returns
returns c = vec_stored c.args.triangles.now c.args.n c.args.p c.args.v
