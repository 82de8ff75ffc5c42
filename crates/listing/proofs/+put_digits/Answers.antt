-- `listing::put_digits` meets its contract: the digits before the last are written by itself, with one digit less.
use Rattle.std.proofs.Common.{◌-◌, ◌/◌, pos_of_ne-zero, arith}
use Rattle.listing.proofs.Writing.{wrote_none, wrote_then, digits_none, digits_one, digits_more, digits_length}
use Rattle.listing.proofs.+put_digits.Goals as goal

pub returns-then-most-eq0 : goal.returns-then-most-eq0
returns-then-most-eq0 t c = rw (← digits_none _ _ c.if-most-eq0.true) (wrote_none _ _)

pub put-requires : goal.put-requires
put-requires t c = omega (arith, pos_of_ne-zero c.if-most-eq0.false)

pub returns-then-n-lt10 : goal.returns-then-n-lt10
returns-then-n-lt10 t c = rw (digits_one _ _ c.if-most-eq0.false c.if-n-lt10.true) c.put.ensures

pub overflow_sub-most : goal.overflow_sub-most
overflow_sub-most t c = omega (arith, pos_of_ne-zero c.if-most-eq0.false)

pub put_digits-next-requires : goal.put_digits-next-requires
put_digits-next-requires t c = let z = pos_of_ne-zero c.if-most-eq0.false in (omega arith, omega arith)

pub put-requires-2 : goal.put-requires-2
put-requires-2 t c =
    let a = c.args in
    let z = pos_of_ne-zero c.if-most-eq0.false in
    let l = digits_length (a.most - 1) (a.n / 10) in
    let e = c.put_digits-next.ensures.ends in
    let k = c.put_digits-next.auto in
    omega arith

pub returns : goal.returns
returns t c = rw (digits_more _ _ c.if-most-eq0.false c.if-n-lt10.false) (wrote_then c.put_digits-next.ensures c.put-2.ensures)
