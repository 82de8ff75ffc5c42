-- `columns::put_dots` meets its contract: four stores, one to a column (`dots_stored`).
use mathlib.Core.Path.{refl}
use native.Mathlib.Omega.{arith}
use lib.ListN.{length-set}
use Rattle.columns.proofs.Storing.{dots_stored}
use Rattle.columns.proofs.put_dots.Goals as goal

pub bounds-triangles-p-2 : goal.bounds-triangles-p-2
bounds-triangles-p-2 c = simp length-set (omega arith)

pub bounds-triangles-p-3 : goal.bounds-triangles-p-3
bounds-triangles-p-3 c = simp length-set (omega arith)

pub bounds-triangles-p-4 : goal.bounds-triangles-p-4
bounds-triangles-p-4 c = simp length-set (omega arith)

pub shape_of-triangles : goal.shape_of-triangles
shape_of-triangles c = simp length-set refl

pub returns : goal.returns
returns c = dots_stored c.args.triangles.now c.args.n c.args.p c.args.d
