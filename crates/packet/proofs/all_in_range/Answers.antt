-- `packet::all_in_range` meets its contract: the test of the taps from each turn on is the test of all of them.
use mathlib.Core.Path.{sym, ap, ◌∙◌}
use native.Mathlib.Omega.{arith}
use Rattle.packet.specs.Refusals.{all, in_range}
use Rattle.packet.proofs.Areas.{from_start, all_no, all_yes, all_done}
use Rattle.packet.proofs.all_in_range.Goals as goal

pub loop-i-init : goal.loop-i-init
loop-i-init c = let a = c.args in (omega arith, ap (all (in_range a.images)) (sym (from_start a.count a.taps.now)))

pub returns-else-is_in_range : goal.returns-else-is_in_range
returns-else-is_in_range c =
    let a = c.args in
    sym (c.loop-i.invariant.1 ∙ all_no (in_range a.images) a.count c.loop-i.i a.taps.now c.loop-i-test.true (sym c.is_in_range.ensures ∙ c.if-is_in_range.false))

pub loop-i-preserved : goal.loop-i-preserved
loop-i-preserved c =
    let a = c.args in
    (omega arith, c.loop-i.invariant.1 ∙ all_yes (in_range a.images) a.count c.loop-i.i a.taps.now c.loop-i-test.true (sym c.is_in_range.ensures ∙ c.if-is_in_range.true))

pub returns : goal.returns
returns c =
    let a = c.args in sym (c.loop-i.invariant.1 ∙ all_done (in_range a.images) a.count c.loop-i.i a.taps.now c.loop-i-test.false)
