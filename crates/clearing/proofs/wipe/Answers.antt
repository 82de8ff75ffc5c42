-- `clearing::wipe` meets its contract: k spans of either half are zero, then what lies behind both.
use mathlib.Core.Path.{refl, ◌∙◌}
use native.Mathlib.Omega.{arith}
use Rattle.clearing.proofs.Wiping.{halves_none, halves_more, halves_all}
use Rattle.clearing.proofs.wipe.Goals as goal

pub loop-k-init : goal.loop-k-init
loop-k-init g c = halves_none g.T.Clear.zero g.T.Clear.past _ _

pub overflow_mul-k : goal.overflow_mul-k
overflow_mul-k g c = let len = c.loop-k.invariant.len in omega arith

pub overflow_add-m : goal.overflow_add-m
overflow_add-m g c = let len = c.loop-k.invariant.len in omega arith

pub overflow_mul-m : goal.overflow_mul-m
overflow_mul-m g c = let len = c.loop-k.invariant.len in omega arith

pub wipe_both-requires : goal.wipe_both-requires
wipe_both-requires g c = let len = c.loop-k.invariant.len in (omega arith, omega arith)

pub loop-k-preserved : goal.loop-k-preserved
loop-k-preserved g c = halves_more g.T.Clear.zero g.T.Clear.past _ _ _ _ _ _ _ (omega arith) c.wipe_both.auto.area refl refl c.loop-k.invariant c.wipe_both.ensures

pub overflow_mul-m-2 : goal.overflow_mul-m-2
overflow_mul-m-2 g c = let len = c.loop-k.invariant.len in omega arith

pub blank-requires : goal.blank-requires
blank-requires g c = let len = c.loop-k.invariant.len in (omega arith, omega arith)

pub shape_of-area : goal.shape_of-area
shape_of-area g c = c.blank.auto.area ∙ c.loop-k.invariant.len

pub returns : goal.returns
returns g c = halves_all g.T.Clear.zero g.T.Clear.past _ _ _ _ _ _ _ (omega arith) refl refl c.blank.auto.area c.loop-k.invariant c.blank.ensures
