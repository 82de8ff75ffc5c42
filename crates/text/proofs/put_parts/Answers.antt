-- `text::put_parts` meets its contract: whole part, point and decimals, one after another.
use Rattle.std.proofs.Common.{◌/◌, arith}
use Rattle.listing.proofs.Writing.{wrote_then, digits_length}
use Rattle.text.specs.Fixed.{parts_of}
use Rattle.text.proofs.put_parts.Goals as goal

pub put-b-requires : goal.put-b-requires
put-b-requires c =
    let l = digits_length 20 (c.args.m / c.args.tens) in
    omega (arith, l, c.put_digits-a.ensures.ends, c.put_digits-a.auto, c.requires.3)

pub put_last-requires : goal.put_last-requires
put_last-requires c =
    let l = digits_length 20 (c.args.m / c.args.tens) in
    omega (arith, l, c.put_digits-a.ensures.ends, c.put_digits-a.auto, c.put-b.ensures.ends, c.put-b.auto, c.requires.0, c.requires.3)

pub returns : goal.returns
unfolding parts_of
returns c =
    rw (← c.requires.1) (wrote_then (wrote_then c.put_digits-a.ensures c.put-b.ensures) c.put_last.ensures)

pub nonzero_div-m : goal.nonzero_div-m
nonzero_div-m c = omega (arith, c.requires.2)

pub put_digits-a-requires : goal.put_digits-a-requires
put_digits-a-requires c = omega (arith, c.requires.3)
