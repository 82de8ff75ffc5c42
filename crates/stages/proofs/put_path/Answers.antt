-- `stages::put_path` meets its contract: thirteen stores.
use mathlib.Core.Path.{refl}
use native.Mathlib.Omega.{arith}
use lib.ListN.{length-set}
use Rattle.stages.proofs.put_path.Goals as goal

pub bounds-found-0 : goal.bounds-found-0
bounds-found-0 c = omega (arith, c.requires)

pub bounds-found-1 : goal.bounds-found-1
bounds-found-1 c = let h = c.requires in simp length-set (omega arith)

pub bounds-found-2 : goal.bounds-found-2
bounds-found-2 c = let h = c.requires in simp length-set (omega arith)

pub bounds-found-3 : goal.bounds-found-3
bounds-found-3 c = let h = c.requires in simp length-set (omega arith)

pub bounds-found-4 : goal.bounds-found-4
bounds-found-4 c = let h = c.requires in simp length-set (omega arith)

pub bounds-found-5 : goal.bounds-found-5
bounds-found-5 c = let h = c.requires in simp length-set (omega arith)

pub bounds-found-6 : goal.bounds-found-6
bounds-found-6 c = let h = c.requires in simp length-set (omega arith)

pub bounds-found-7 : goal.bounds-found-7
bounds-found-7 c = let h = c.requires in simp length-set (omega arith)

pub bounds-found-8 : goal.bounds-found-8
bounds-found-8 c = let h = c.requires in simp length-set (omega arith)

pub bounds-found-9 : goal.bounds-found-9
bounds-found-9 c = let h = c.requires in simp length-set (omega arith)

pub bounds-found-10 : goal.bounds-found-10
bounds-found-10 c = let h = c.requires in simp length-set (omega arith)

pub bounds-found-11 : goal.bounds-found-11
bounds-found-11 c = let h = c.requires in simp length-set (omega arith)

pub bounds-found-12 : goal.bounds-found-12
bounds-found-12 c = let h = c.requires in simp length-set (omega arith)

pub shape_of-found : goal.shape_of-found
shape_of-found c = simp length-set

pub returns : goal.returns
returns c = refl
