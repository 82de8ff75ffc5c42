-- `stages::biv_intersect` meets its contract: the floats and the number are those of the answer that `tree_trace::intersect` gives.
use mathlib.Core.Path.{refl, sym}
use native.Mathlib.Omega.{arith}
use lib.ListN.{length-set}
use Rattle.stages.proofs.biv_intersect.Goals as goal

pub bounds-hit-0 : goal.bounds-hit-0
bounds-hit-0 c = let h = c.requires.in_bounds in omega arith

pub bounds-hit-1 : goal.bounds-hit-1
bounds-hit-1 c = let h = c.requires.in_bounds in simp length-set (omega arith)

pub bounds-hit-2 : goal.bounds-hit-2
bounds-hit-2 c = let h = c.requires.in_bounds in simp length-set (omega arith)

pub bounds-hit-3 : goal.bounds-hit-3
bounds-hit-3 c = let h = c.requires.in_bounds in simp length-set (omega arith)

pub bounds-place-0 : goal.bounds-place-0
bounds-place-0 c = let h = c.requires.in_bounds_2 in omega arith

pub returns-in_default : goal.returns-in_default
returns-in_default c = λ tri t rows hs tree.
    rw (← c.ray_from.ensures, sym (c.intersect.ensures tri t rows hs tree), c.in_default.is) (record { found = refl; floats = refl; triangle = refl })

pub returns : goal.returns
returns c = λ tri t rows hs tree.
    rw (← c.ray_from.ensures, sym (c.intersect.ensures tri t rows hs tree), c.in-Some.is) (record { found = refl; floats = refl; triangle = refl })
