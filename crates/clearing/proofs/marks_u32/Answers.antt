-- `clearing::marks_u32` meets its contract: as long as no bit was met, all that was read of either run is zero.
use native.Mathlib.Omega.{arith}
use Rattle.clearing.proofs.Wiping.{run_none, run_all, marks_more}
use Rattle.clearing.proofs.marks_u32.Goals as goal

pub loop-k-init : goal.loop-k-init
loop-k-init c = (omega arith, λ z. (run_none 0 0 _ _, run_none 0 0 _ _))

pub loop-k-preserved : goal.loop-k-preserved
loop-k-preserved c = (omega arith, λ e. marks_more c.args.area.now c.args.near c.args.far c.loop-k.k c.loop-k.marks e c.loop-k.invariant.1)

pub returns : goal.returns
returns c = λ e. (run_all 0 0 _ _ _ (omega arith) (c.loop-k.invariant.1 e).0, run_all 0 0 _ _ _ (omega arith) (c.loop-k.invariant.1 e).1)
