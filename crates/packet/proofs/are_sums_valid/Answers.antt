-- `packet::are_sums_valid` meets its contract: the sums from each turn on are valid after the last one seen where all are; the first follows infinity.
use mathlib.Core.Path.{sym, ap, ◌∙◌}
use mathlib.Core.List.{map}
use native.Mathlib.Omega.{arith}
use lib.Ieee.{nan_bits}
use Rattle.packet.specs.Refusals.{all, sum_of_squared_gains}
use Rattle.packet.specs.Helpers.{finite_gains}
use Rattle.packet.proofs.Areas.{from_start, from_done}
use Rattle.packet.proofs.Sums.{falling, infinity, finite_gains_both, falling_step, falling_valid}
use Rattle.packet.proofs.are_sums_valid.Goals as goal

pub float_from_bits-last : goal.float_from_bits-last
unfolding nan_bits
float_from_bits-last c = tt

pub loop-i-init : goal.loop-i-init
loop-i-init c =
    let e = from_start c.args.count c.args.taps.now in
    (omega arith, ap (all finite_gains) e ∙ c.requires.1, ap (λ l. falling infinity (map sum_of_squared_gains l)) (sym e))

pub squared_gain_sum-e-requires : goal.squared_gain_sum-e-requires
squared_gain_sum-e-requires c =
    (omega arith, (finite_gains_both c.args.count c.loop-i.i c.args.taps.now c.loop-i-test.true c.loop-i.invariant.1).0)

pub returns-else-e : goal.returns-else-e
returns-else-e c =
    sym (c.loop-i.invariant.2 ∙ rw (falling_step c.args.count c.loop-i.i c.args.taps.now c.loop-i-test.true c.loop-i.last, ← c.squared_gain_sum-e.ensures, c.if-e.false)) ∙ falling_valid _

pub returns-then-last-e : goal.returns-then-last-e
returns-then-last-e c =
    sym (c.loop-i.invariant.2 ∙ rw (falling_step c.args.count c.loop-i.i c.args.taps.now c.loop-i-test.true c.loop-i.last, ← c.squared_gain_sum-e.ensures, c.if-e.true, c.if-last-e.true)) ∙ falling_valid _

pub loop-i-preserved : goal.loop-i-preserved
loop-i-preserved c = (
  omega arith,
  (finite_gains_both c.args.count c.loop-i.i c.args.taps.now c.loop-i-test.true c.loop-i.invariant.1).1,
  c.loop-i.invariant.2 ∙ rw (falling_step c.args.count c.loop-i.i c.args.taps.now c.loop-i-test.true c.loop-i.last, ← c.squared_gain_sum-e.ensures, c.if-e.true, c.if-last-e.false),
)

pub returns : goal.returns
unfolding falling
returns c =
    sym (c.loop-i.invariant.2 ∙ ap (λ l. falling c.loop-i.last (map sum_of_squared_gains l)) (from_done c.args.count c.loop-i.i c.args.taps.now c.loop-i-test.false)) ∙ falling_valid _
