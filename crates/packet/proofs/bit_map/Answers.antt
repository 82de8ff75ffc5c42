-- `packet::bit_map` meets its contract: from the last band down, the map so far is that of the gains from there on.
use Prim.Native.Nat.{◌+◌, ◌*◌}
use mathlib.Core.Path.{sym, ap, ◌∙◌}
use native.Mathlib.Omega.{arith}
use Rattle.packet.specs.Tap.{bits_of_gains}
use Rattle.packet.proofs.Areas.{window_done, bits_step, bits_window, window_zero}
use Rattle.packet.proofs.bit_map.Goals as goal

pub loop-k-init : goal.loop-k-init
unfolding bits_of_gains
loop-k-init c = (omega arith, ap bits_of_gains (sym (window_done c.args.at 8 c.args.taps.now (omega arith))))

pub overflow_mul-m : goal.overflow_mul-m
overflow_mul-m c =
    omega (arith, bits_window c.args.at c.loop-k.k c.args.taps.now c.loop-k-test.true)

pub overflow_add-m : goal.overflow_add-m
overflow_add-m c =
    omega (arith, bits_window c.args.at c.loop-k.k c.args.taps.now c.loop-k-test.true)

pub loop-k-preserved : goal.loop-k-preserved
loop-k-preserved c =
    let a = c.args in
    (omega arith, (λ i. c.gain_bit.ensures.0 i + 2 * c.loop-k.invariant.1 i) ∙ sym (bits_step a.at c.loop-k.k a.taps.now c.loop-k-test.true c.loop-k.invariant.0 c.requires))

pub returns : goal.returns
returns c =
    c.loop-k.invariant.1 ∙ ap bits_of_gains (window_zero c.args.at c.loop-k.k c.args.taps.now c.loop-k-test.false)
