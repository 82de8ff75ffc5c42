-- `booth::mark` meets its contract: the part is within the bytes, and has as many as there are planes.
use mathlib.Core.Path.{sym}
use native.Mathlib.Omega.{arith}
use lib.Seq.{length-take-le}
use Rattle.booth.proofs.mark.Goals as goal

pub slice_bounds-mark_planes-end-then-planes-on : goal.slice_bounds-mark_planes-end-then-planes-on
slice_bounds-mark_planes-end-then-planes-on c = sym (length-take-le _ _ c.if-planes-on.true)

pub mark_planes-requires : goal.mark_planes-requires
mark_planes-requires c =
    let a = c.args in
    let q = c.requires in
    let long = length-take-le a.planes a.on.now c.if-planes-on.true in
    (omega (arith, long, q.0), omega (arith, long, q.1))

pub returns-then-planes-on : goal.returns-then-planes-on
returns-then-planes-on c = tt

pub returns-else-planes-on : goal.returns-else-planes-on
returns-else-planes-on c = tt
