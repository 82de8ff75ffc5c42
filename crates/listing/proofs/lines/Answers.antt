-- `listing::lines` meets its contract. The loop's invariant: the lines from `from` up to `next` are written, each in at most `most_line` bytes.
use Prim.Native.Nat.{◌+◌, ◌-◌}
use mathlib.Core.Path.{◌≡◌, refl}
use native.Mathlib.Omega.{arith}
use lib.ListN.{length}
use Rattle.listing.proofs.Writing.{wrote_none, wrote_then, lines_none, lines_more, image_length, chunk_room, chunk_from, chunk_fits, chunked}
use Rattle.listing.proofs.lines.Goals as goal

pub loop-k-init : goal.loop-k-init
loop-k-init c =
    let a = c.args in
    let g = chunk_from a.total a.from (length a.records.now) (length a.out.now) in
    let e = c.chunk_end-end.ensures in (
      omega arith,
      omega arith,
      refl,
      omega arith,
      (rw (← lines_none a.records.now a.from (a.from - a.from) (let z : a.from - a.from ≡ 0 = omega arith in z)) (wrote_none a.out.now 0)),
    )

pub put_image-len-requires : goal.put_image-len-requires
put_image-len-requires c =
    let a = c.args in
    let i = c.loop-k.invariant in
    let e = c.chunk_end-end.ensures in
    let r = chunk_room a.total a.from (length a.records.now) (length a.out.now) c.loop-k.k i.0 (rw e at c.loop-k-test.true) in
    (r.0, (let p = r.1 in let l = i.2 in let k = i.3 in omega arith))

pub loop-k-preserved : goal.loop-k-preserved
loop-k-preserved c =
    let a = c.args in
    let i = c.loop-k.invariant in
    let l = i.2 in
    let k = i.3 in
    let w = c.put_image-len.ensures.ends in
    let j = c.put_image-len.auto in
    let m = image_length a.records.now (c.loop-k.k + 1) c.loop-k.k in (
      omega arith,
      omega arith,
      omega arith,
      omega arith,
      (rw (lines_more a.records.now a.from c.loop-k.k i.0) (wrote_then i.4 c.put_image-len.ensures)),
    )

pub shape_of-out : goal.shape_of-out
shape_of-out c = c.loop-k.invariant.2

pub returns : goal.returns
returns c =
    let a = c.args in
    let i = c.loop-k.invariant in
    let e = c.chunk_end-end.ensures in
    let t = c.loop-k-test.false in
    let n = i.1 in
    let k : c.loop-k.k ≡ c.chunk_end-end.result = omega arith in
    rw (← k)
    (chunked a.records.now a.total a.from a.out.now c.loop-k.k c.loop-k.len c.loop-k.out (omega arith)
    (chunk_fits a.total a.from (length a.records.now) (length a.out.now) c.loop-k.k c.loop-k.len (omega arith) i.3) i.4)
