-- `text::put_last` meets its contract: the digits before the last are written by itself, with one digit less.
use Rattle.std.proofs.Common.{◌-◌, ◌/◌, pos_of_ne-zero, arith}
use Rattle.listing.proofs.Writing.{wrote_none, wrote_then}
use Rattle.text.proofs.Pieces.{last_none, last_more, last_length}
use Rattle.text.proofs.+put_last.Goals as goal

-- src/lib.rt:313:9
pub returns-then-k-eq0 : goal.returns-then-k-eq0
returns-then-k-eq0 t c = rw (← last_none _ _ c.if-k-eq0.true) (wrote_none _ _)

-- src/lib.rt:316:5
pub put-requires : goal.put-requires
put-requires t c =
    let a = c.args in
    let z = pos_of_ne-zero c.if-k-eq0.false in
    let l = last_length (a.k - 1) (a.n / 10) in
    let e = c.put_last-next.ensures.ends in
    let k = c.put_last-next.auto in
    omega arith

-- src/lib.rt:308:1
pub returns : goal.returns
returns t c =
    rw (last_more _ _ c.if-k-eq0.false) (wrote_then c.put_last-next.ensures c.put.ensures)
