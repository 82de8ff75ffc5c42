-- `search::put_point` meets its contract: three stores.
use Prim.Native.Nat.{◌+◌}
use mathlib.Core.Path.{refl}
use native.Mathlib.Omega.{arith}
use lib.ListN.{set, length-set}
use lib.Seq.{lt-length-set}
use Rattle.search.proofs.put_point.Goals as goal

pub bounds-l-at : goal.bounds-l-at
bounds-l-at c = omega (arith, c.requires)

pub bounds-l-at-2 : goal.bounds-l-at-2
bounds-l-at-2 c = let a = c.args in lt-length-set a.l.now a.at a.v.x (omega (arith, c.requires))

pub bounds-l-at-3 : goal.bounds-l-at-3
bounds-l-at-3 c = let a = c.args in lt-length-set (set a.l.now a.at a.v.x) (a.at + 1) a.v.y (lt-length-set a.l.now a.at a.v.x (omega (arith, c.requires)))

pub shape_of-l : goal.shape_of-l
shape_of-l c = simp length-set

pub returns : goal.returns
returns c = refl
