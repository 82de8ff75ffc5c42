-- `clearing::marks_f32` meets its contract: as long as no bit was met, all that was read of either run is zero.
use native.Mathlib.Omega.{arith}
use lib.Ieee.{nan}
use Rattle.float.specs.Literals.{zero32}
use Rattle.clearing.proofs.Wiping.{or_left, or_right, quarters_none, quarters_more, quarters_all}
use Rattle.clearing.proofs.marks_f32.Goals as goal

pub loop-k-init : goal.loop-k-init
loop-k-init c = (omega arith, λ z. (quarters_none zero32 nan _ _, quarters_none zero32 nan _ _))

pub loop-k-preserved : goal.loop-k-preserved
loop-k-preserved c = (
  omega arith,
  λ e. let m = c.mark-marks.ensures (or_right c.loop-k.marks c.mark-marks.result e) in
      let old = c.loop-k.invariant.1 (or_left c.loop-k.marks c.mark-marks.result e) in
      (quarters_more zero32 nan _ _ _ m.0 m.1 m.2 m.3 old.0, quarters_more zero32 nan _ _ _ m.4 m.5 m.6 m.7 old.1),
)

pub returns : goal.returns
returns c = λ e. (quarters_all zero32 nan _ _ _ (omega arith) (c.loop-k.invariant.1 e).0, quarters_all zero32 nan _ _ _ (omega arith) (c.loop-k.invariant.1 e).1)
