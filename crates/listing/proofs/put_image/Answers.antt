-- `listing::put_image` meets its contract: the part of the records that it hands on is the image's planes.
use native.Mathlib.Omega.{arith}
use Rattle.listing.proofs.Writing.{planes_part, planes_few}
use Rattle.listing.proofs.put_image.Goals as goal

pub put_line-requires : goal.put_line-requires
put_line-requires c =
    let a = c.args in
    let e = planes_part a.records.now a.k c.min.result c.min.ensures in
    (rw e (planes_few a.records.now a.k), omega arith)

pub returns : goal.returns
returns c =
    let a = c.args in
    rw (← planes_part a.records.now a.k c.min.result c.min.ensures) c.put_line.ensures
