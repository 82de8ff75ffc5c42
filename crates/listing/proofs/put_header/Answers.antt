-- `listing::put_header` meets its contract: its three pieces, one after the other.
use native.Mathlib.Omega.{arith}
use Rattle.listing.specs.Text.{most_digits}
use Rattle.listing.proofs.Writing.{wrote_then, header_is, digits_length}
use Rattle.listing.proofs.put_header.Goals as goal

pub put_digits-b-requires : goal.put_digits-b-requires
put_digits-b-requires c =
    let k = c.put_bytes-a.auto in
    let e = c.put_bytes-a.ensures.ends in
    omega arith

pub put-requires : goal.put-requires
put-requires c =
    let k = c.put_bytes-a.auto in
    let e = c.put_bytes-a.ensures.ends in
    let d = digits_length most_digits c.args.total in
    let j = c.put_digits-b.auto in
    let f = c.put_digits-b.ensures.ends in
    omega arith

pub shape_of-out : goal.shape_of-out
shape_of-out c =
    let k = c.put_bytes-a.auto in
    let j = c.put_digits-b.auto in
    let i = c.put.auto in
    omega arith

pub returns : goal.returns
returns c =
    let at-args = c.args in
    rw (header_is at-args.total) (wrote_then (wrote_then c.put_bytes-a.ensures c.put_digits-b.ensures) c.put.ensures)
