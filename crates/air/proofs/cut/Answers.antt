-- `air::cut` meets its contract: the sum fits, and the lesser is taken.
use Rattle.std.proofs.Common.{◌+◌, ◌<◌, ◌≤◌, arith, rules}
use Rattle.air.specs.Air.{steps_in}
use Rattle.air.proofs.cut.Goals as goal

pub overflow_add-s : goal.overflow_add-s
overflow_add-s c = let p : c.args.product ≤ 9223372036854775808 = c.requires in search (rules, let e : c.args.product + 25000000 < 18446744073709551616 = omega (arith, p) in e)

pub returns-then-s-lt-MOST_STEPS : goal.returns-then-s-lt-MOST_STEPS
unfolding steps_in
returns-then-s-lt-MOST_STEPS c = let h = c.if-s-lt-MOST_STEPS.true in omega (arith, h)

pub returns-else-s-lt-MOST_STEPS : goal.returns-else-s-lt-MOST_STEPS
unfolding steps_in
returns-else-s-lt-MOST_STEPS c = let h = c.if-s-lt-MOST_STEPS.false in omega (arith, h)
