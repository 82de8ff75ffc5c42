-- `listing::put_line` meets its contract: its four pieces, one after the other.
use native.Mathlib.Omega.{arith}
use Rattle.listing.specs.Text.{most_digits}
use Rattle.listing.proofs.Writing.{wrote_then, line_is, digits_length, planes_short}
use Rattle.listing.proofs.put_line.Goals as goal

pub put-b-requires : goal.put-b-requires
put-b-requires c =
    let a = c.args in
    let d = digits_length most_digits a.number in
    let e = c.put_digits-a.ensures.ends in
    let k = c.put_digits-a.auto in
    omega arith

pub put_planes-c-requires : goal.put_planes-c-requires
put_planes-c-requires c =
    let a = c.args in
    let d = digits_length most_digits a.number in
    let e = c.put_digits-a.ensures.ends in
    let k = c.put_digits-a.auto in
    let f = c.put-b.ensures.ends in
    let j = c.put-b.auto in
    omega arith

pub put-requires : goal.put-requires
put-requires c =
    let a = c.args in
    let at_pre = c.requires in
    let d = digits_length most_digits a.number in
    let l = planes_short a.planes.now at_pre.0 in
    let e = c.put_digits-a.ensures.ends in
    let k = c.put_digits-a.auto in
    let f = c.put-b.ensures.ends in
    let j = c.put-b.auto in
    let g = c.put_planes-c.ensures.ends in
    let i = c.put_planes-c.auto in
    omega arith

pub shape_of-out : goal.shape_of-out
shape_of-out c =
    let k = c.put_digits-a.auto in
    let j = c.put-b.auto in
    let i = c.put_planes-c.auto in
    let h = c.put.auto in
    omega arith

pub returns : goal.returns
returns c =
    let a = c.args in
    rw (line_is a.number a.planes.now)
    (wrote_then (wrote_then (wrote_then c.put_digits-a.ensures c.put-b.ensures) c.put_planes-c.ensures) c.put.ensures)
