-- `packet::all_floats_valid` meets its contract: the test of the taps from each turn on is the test of all of them.
use Prim.Native.Nat.{◌*◌}
use mathlib.Core.Path.{sym, ap, ◌∙◌}
use native.Mathlib.Omega.{arith}
use Rattle.packet.specs.Limits.{tap_words}
use Rattle.packet.specs.Refusals.{all, valid_floats}
use Rattle.packet.proofs.Areas.{from_start, all_no, all_yes, all_done, floats_by}
use Rattle.packet.proofs.all_floats_valid.Goals as goal

pub loop-i-init : goal.loop-i-init
loop-i-init c = let a = c.args in (omega arith, ap (all valid_floats) (sym (from_start a.count a.taps.now)))

pub returns-else-has_valid_floats : goal.returns-else-has_valid_floats
returns-else-has_valid_floats c =
    let a = c.args in
    sym (c.loop-i.invariant.1 ∙ all_no valid_floats a.count c.loop-i.i a.taps.now c.loop-i-test.true (sym (c.has_valid_floats.ensures ∙ floats_by c.bit_map-m.result (c.loop-i.i * tap_words) a.taps.now c.bit_map-m.ensures) ∙ c.if-has_valid_floats.false))

pub loop-i-preserved : goal.loop-i-preserved
loop-i-preserved c =
    let a = c.args in
    (omega arith, c.loop-i.invariant.1 ∙ all_yes valid_floats a.count c.loop-i.i a.taps.now c.loop-i-test.true (sym (c.has_valid_floats.ensures ∙ floats_by c.bit_map-m.result (c.loop-i.i * tap_words) a.taps.now c.bit_map-m.ensures) ∙ c.if-has_valid_floats.true))

pub returns : goal.returns
returns c =
    let a = c.args in sym (c.loop-i.invariant.1 ∙ all_done valid_floats a.count c.loop-i.i a.taps.now c.loop-i-test.false)
