-- `search::all_planes` meets its contract: a list of eight is its eight elements.
use native.Mathlib.Omega.{arith}
use Rattle.search.proofs.Points.{eight_all}
use Rattle.search.proofs.all_planes.Goals as goal

pub bounds-seq-0 : goal.bounds-seq-0
bounds-seq-0 c = omega (arith, c.requires)

pub bounds-seq-1 : goal.bounds-seq-1
bounds-seq-1 c = omega (arith, c.requires)

pub bounds-seq-2 : goal.bounds-seq-2
bounds-seq-2 c = omega (arith, c.requires)

pub bounds-seq-3 : goal.bounds-seq-3
bounds-seq-3 c = omega (arith, c.requires)

pub bounds-seq-4 : goal.bounds-seq-4
bounds-seq-4 c = omega (arith, c.requires)

pub bounds-seq-5 : goal.bounds-seq-5
bounds-seq-5 c = omega (arith, c.requires)

pub bounds-seq-6 : goal.bounds-seq-6
bounds-seq-6 c = omega (arith, c.requires)

pub bounds-seq-7 : goal.bounds-seq-7
bounds-seq-7 c = omega (arith, c.requires)

pub returns : goal.returns
returns c = eight_all c.args.seq.now c.requires
