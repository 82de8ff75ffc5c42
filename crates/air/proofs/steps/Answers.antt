-- `air::steps` meets its contract: each product fits, and one that might not leaves nothing.
use Rattle.std.proofs.Common.{◌*◌, ◌<◌, arith, rules}
use Rattle.air.proofs.Nothing.{product_small, product_short, product_far}
use Rattle.air.proofs.steps.Goals as goal

pub overflow_mul-coefficient : goal.overflow_mul-coefficient
overflow_mul-coefficient c =
    let p = product_small c.args.coefficient c.args.millimetres c.if-coefficient-lt16777216.true c.requires in
    search (rules, let e : c.args.coefficient * c.args.millimetres < 18446744073709551616 = omega (arith, p) in e)

pub cut-requires : goal.cut-requires
cut-requires c = product_small c.args.coefficient c.args.millimetres c.if-coefficient-lt16777216.true c.requires

pub overflow_mul-coefficient-then-millimetres-lt16384 : goal.overflow_mul-coefficient-then-millimetres-lt16384
overflow_mul-coefficient-then-millimetres-lt16384 c =
    let p = product_short c.args.coefficient c.args.millimetres c.ranges.coefficient.fits c.if-millimetres-lt16384.true in
    search (rules, let e : c.args.coefficient * c.args.millimetres < 18446744073709551616 = omega (arith, p) in e)

pub cut-requires-then-millimetres-lt16384 : goal.cut-requires-then-millimetres-lt16384
cut-requires-then-millimetres-lt16384 c = product_short c.args.coefficient c.args.millimetres c.ranges.coefficient.fits c.if-millimetres-lt16384.true

pub returns-then-coefficient-lt16777216 : goal.returns-then-coefficient-lt16777216
returns-then-coefficient-lt16777216 c = c.cut.ensures

pub returns-then-millimetres-lt16384 : goal.returns-then-millimetres-lt16384
returns-then-millimetres-lt16384 c = c.cut-then-millimetres-lt16384.ensures

pub returns : goal.returns
returns c =
    let p = product_far c.args.coefficient c.args.millimetres c.if-coefficient-lt16777216.false c.if-millimetres-lt16384.false in
    omega (arith, p)
