-- `bvh::put_box` meets its contract: its stores are one run.
use native.Mathlib.Omega.{arith}
use lib.ListN.{length-set}
use Rattle.bvh.proofs.Rows as rows
use Rattle.bvh.proofs.put_box.Goals as goal

pub bounds-padded-at-2 : goal.bounds-padded-at-2
bounds-padded-at-2 c = simp length-set (omega arith)

pub bounds-padded-at-3 : goal.bounds-padded-at-3
bounds-padded-at-3 c = simp length-set (omega arith)

pub bounds-padded-at-4 : goal.bounds-padded-at-4
bounds-padded-at-4 c = simp length-set (omega arith)

pub bounds-padded-at-5 : goal.bounds-padded-at-5
bounds-padded-at-5 c = simp length-set (omega arith)

pub bounds-padded-at-6 : goal.bounds-padded-at-6
bounds-padded-at-6 c = simp length-set (omega arith)

pub shape_of-padded : goal.shape_of-padded
shape_of-padded c = simp length-set

pub returns : goal.returns
returns c = let a = c.args in rows.box_stores a.padded.now a.i a.b
