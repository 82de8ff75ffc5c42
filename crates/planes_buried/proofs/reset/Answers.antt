-- `planes_buried::reset` meets its contract: the loop holds it for the patches before p.
use mathlib.Core.Path.{◌∙◌}
use Prim.Native.Nat.{◌<◌}
use native.Mathlib.Omega.{arith}
use lib.ListN.{length, length-set}
use lib.Ieee.{neg}
use Rattle.float.specs.Literals.{one32}
use Rattle.planes_patches.specs.Rows.{none_of}
use Rattle.planes_buried.proofs.Best.{reset_more}
use Rattle.planes_buried.proofs.reset.Goals as goal

pub loop-p-preserved : goal.loop-p-preserved
loop-p-preserved c = let a = c.args in let ha : c.loop-p.p < length c.loop-p.areas = omega (arith, c.loop-p.invariant.1, c.loop-p-test.true, c.requires.0) in let hl : c.loop-p.p < length c.loop-p.largest = omega (arith, c.loop-p.invariant.2, c.loop-p-test.true, c.requires.1) in
    (omega arith, length-set c.loop-p.areas c.loop-p.p (neg one32) ∙ c.loop-p.invariant.1, length-set c.loop-p.largest c.loop-p.p none_of ∙ c.loop-p.invariant.2, reset_more c.loop-p.areas c.loop-p.largest c.loop-p.p (neg one32) none_of ha hl c.loop-p.invariant.3)
