-- `clearing::wipe_both` meets its contract: no mark means that both runs are zero (`both_kept`); else both are blanked (`both_wiped`).
use mathlib.Core.Path.{refl}
use native.Mathlib.Omega.{arith}
use Rattle.clearing.proofs.Wiping.{both_kept, both_wiped}
use Rattle.clearing.proofs.wipe_both.Goals as goal

pub returns-then-are_zero : goal.returns-then-are_zero
returns-then-are_zero g c = both_kept g.T.Clear.zero g.T.Clear.past _ _ _ (c.are_zero.ensures c.if-are_zero.true)

pub blank-requires : goal.blank-requires
blank-requires g c = (omega arith, omega arith)

pub blank-requires-2 : goal.blank-requires-2
blank-requires-2 g c = let kept = c.blank.auto.area in (omega arith, omega arith)

pub returns : goal.returns
returns g c = both_wiped g.T.Clear.zero g.T.Clear.past _ _ _ _ _ _ _ refl refl c.blank.ensures c.blank-2.ensures
