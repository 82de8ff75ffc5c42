-- `listing::put_planes` meets its contract. The loop's invariant: the planes passed are written, each in at most 21 bytes.
use mathlib.Core.Path.{refl}
use native.Mathlib.Omega.{arith}
use lib.ListN.{get_or}
use Rattle.listing.specs.Text.{most_digits}
use Rattle.listing.proofs.Writing.{wrote_none, wrote_then, planes_none, planes_more, planes_all, digits_length}
use Rattle.listing.proofs.put_planes.Goals as goal

pub loop-plane-init : goal.loop-plane-init
loop-plane-init c = let a = c.args in (refl, omega arith, rw (← planes_none) (wrote_none a.out.now a.at))

pub put_digits-p-requires : goal.put_digits-p-requires
put_digits-p-requires c =
    let k = c.put-p.auto in
    let e = c.put-p.ensures.ends in
    omega arith

pub loop-plane-preserved : goal.loop-plane-preserved
loop-plane-preserved c =
    let a = c.args in
    let d = digits_length most_digits (get_or a.planes.now c.loop-plane.plane-index 0) in
    let e = c.put-p.ensures.ends in
    let f = c.put_digits-p.ensures.ends in
    let k = c.put-p.auto in
    let j = c.put_digits-p.auto in (
      omega arith,
      omega arith,
      (rw (planes_more a.planes.now c.loop-plane.plane-index c.loop-plane-test.true) (wrote_then (wrote_then c.loop-plane.invariant.2 c.put-p.ensures) c.put_digits-p.ensures)),
    )

pub returns : goal.returns
returns c =
    let a = c.args in
    rw (planes_all a.planes.now c.loop-plane.plane-index c.loop-plane-test.false) at c.loop-plane.invariant.2
