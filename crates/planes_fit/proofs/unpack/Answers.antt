-- `planes_fit::unpack` meets its contract: the words so far are done.
use native.Mathlib.Omega.{arith}
use Rattle.planes_fit.proofs.Naming.{unpacked_all, unpacked_more, unpacked_none}
use Rattle.planes_fit.proofs.unpack.Goals as goal

pub loop-word-init : goal.loop-word-init
loop-word-init c = unpacked_none _

pub loop-word-preserved : goal.loop-word-preserved
loop-word-preserved c = unpacked_more _ _ _ c.loop-word.invariant (omega (arith, c.loop-word.invariant.len, c.loop-word-test.true))

pub shape_of-words : goal.shape_of-words
shape_of-words c = c.loop-word.invariant.len

pub returns : goal.returns
returns c = unpacked_all _ _ _ c.loop-word.invariant (omega (arith, c.loop-word.invariant.len, c.loop-word-test.false))
