-- `clearing::blank` meets its contract: what lies before i became zero, and what was zero stays so.
use mathlib.Core.Path.{◌≡◌, refl, subst}
use native.Mathlib.Omega.{arith}
use lib.ListN.{length-set}
use Rattle.clearing.specs.Runs.{Wiped}
use Rattle.clearing.proofs.Wiping.{wiped_none, wiped_more}
use Rattle.clearing.proofs.blank.Goals as goal

pub loop-i-init : goal.loop-i-init
loop-i-init g c = (omega arith, refl, wiped_none g.T.Clear.zero g.T.Clear.past _ _)

pub bounds-area-i : goal.bounds-area-i
bounds-area-i g c = let len = c.loop-i.invariant.1 in omega arith

pub loop-i-preserved : goal.loop-i-preserved
loop-i-preserved g c = let len = c.loop-i.invariant.1 in (omega arith, simp length-set c.loop-i.invariant.1, rw c.zero.ensures (wiped_more g.T.Clear.zero g.T.Clear.past _ _ _ _ (omega arith) c.loop-i.invariant.2))

pub shape_of-area : goal.shape_of-area
shape_of-area g c = c.loop-i.invariant.1

pub returns : goal.returns
returns g c = subst (Wiped g.T.Clear.zero g.T.Clear.past c.args.area.now c.loop-i.area c.args.from) (let last : c.loop-i.i ≡ c.args.to = omega arith in last) c.loop-i.invariant.2
