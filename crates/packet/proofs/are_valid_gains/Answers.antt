-- `packet::are_valid_gains` meets its contract: the test of the gains from each turn on, by what is left of the bit map, is the test of all of them.
use mathlib.Core.Path.{refl, sym, ◌∙◌}
use native.Mathlib.Omega.{arith}
use Rattle.packet.proofs.Areas.{gains_no, gains_yes, gains_all}
use Rattle.packet.proofs.are_valid_gains.Goals as goal

pub loop-k-init : goal.loop-k-init
loop-k-init c = (omega arith, refl)

pub returns-else-is_valid_gain : goal.returns-else-is_valid_gain
returns-else-is_valid_gain c =
    let a = c.args in
    sym (c.loop-k.invariant.1 ∙ gains_no a.at c.loop-k.k c.loop-k.m a.taps.now c.loop-k-test.true c.requires (sym c.is_valid_gain.ensures ∙ c.if-is_valid_gain.false))

pub loop-k-preserved : goal.loop-k-preserved
loop-k-preserved c =
    let a = c.args in
    (omega arith, c.loop-k.invariant.1 ∙ gains_yes a.at c.loop-k.k c.loop-k.m a.taps.now c.loop-k-test.true c.requires (sym c.is_valid_gain.ensures ∙ c.if-is_valid_gain.true))

pub returns : goal.returns
returns c =
    let a = c.args in sym (c.loop-k.invariant.1 ∙ gains_all a.at c.loop-k.k c.loop-k.m a.taps.now c.loop-k-test.false)
