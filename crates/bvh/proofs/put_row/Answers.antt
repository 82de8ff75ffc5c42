-- `bvh::put_row` meets its contract: its stores are one run.
use native.Mathlib.Omega.{arith}
use lib.ListN.{length-set}
use Rattle.bvh.proofs.Rows as rows
use Rattle.bvh.proofs.put_row.Goals as goal

pub bounds-leaves-at-2 : goal.bounds-leaves-at-2
bounds-leaves-at-2 c = simp length-set (omega arith)

pub bounds-leaves-at-3 : goal.bounds-leaves-at-3
bounds-leaves-at-3 c = simp length-set (omega arith)

pub bounds-leaves-at-4 : goal.bounds-leaves-at-4
bounds-leaves-at-4 c = simp length-set (omega arith)

pub bounds-leaves-at-5 : goal.bounds-leaves-at-5
bounds-leaves-at-5 c = simp length-set (omega arith)

pub bounds-leaves-at-6 : goal.bounds-leaves-at-6
bounds-leaves-at-6 c = simp length-set (omega arith)

pub bounds-leaves-at-7 : goal.bounds-leaves-at-7
bounds-leaves-at-7 c = simp length-set (omega arith)

pub bounds-leaves-at-8 : goal.bounds-leaves-at-8
bounds-leaves-at-8 c = simp length-set (omega arith)

pub bounds-leaves-at-9 : goal.bounds-leaves-at-9
bounds-leaves-at-9 c = simp length-set (omega arith)

pub bounds-leaves-at-10 : goal.bounds-leaves-at-10
bounds-leaves-at-10 c = simp length-set (omega arith)

pub shape_of-leaves : goal.shape_of-leaves
shape_of-leaves c = simp length-set

pub returns : goal.returns
returns c = let a = c.args in rows.row_stores_lem a.leaves.now a.k a.a a.e
