-- `bvh::put_extent` meets its contract: its stores are one run.
use native.Mathlib.Omega.{arith}
use lib.ListN.{length-set}
use Rattle.bvh.proofs.Rows as rows
use Rattle.bvh.proofs.put_extent.Goals as goal

pub bounds-extents-at-2 : goal.bounds-extents-at-2
bounds-extents-at-2 c = simp length-set (omega arith)

pub bounds-extents-at-3 : goal.bounds-extents-at-3
bounds-extents-at-3 c = simp length-set (omega arith)

pub bounds-extents-at-4 : goal.bounds-extents-at-4
bounds-extents-at-4 c = simp length-set (omega arith)

pub bounds-extents-at-5 : goal.bounds-extents-at-5
bounds-extents-at-5 c = simp length-set (omega arith)

pub bounds-extents-at-6 : goal.bounds-extents-at-6
bounds-extents-at-6 c = simp length-set (omega arith)

pub bounds-extents-at-7 : goal.bounds-extents-at-7
bounds-extents-at-7 c = simp length-set (omega arith)

pub bounds-extents-at-8 : goal.bounds-extents-at-8
bounds-extents-at-8 c = simp length-set (omega arith)

pub bounds-extents-at-9 : goal.bounds-extents-at-9
bounds-extents-at-9 c = simp length-set (omega arith)

pub shape_of-extents : goal.shape_of-extents
shape_of-extents c = simp length-set

pub returns : goal.returns
returns c = let a = c.args in rows.extent_stores a.extents.now a.i a.b a.c
