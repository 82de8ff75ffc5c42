-- `images_cases::digest_lines` is safe and ends: a chunk with a line ends past where it began and within the total.
use Prim.Native.Nat.{◌<◌}
use mathlib.Core.Path.{refl, sym, ◌∙◌}
use native.Mathlib.Omega.{arith}
use lib.Seq.{length-take-le}
use Rattle.listing.proofs.Writing.{chunk_within, chunk_total}
use Rattle.images_cases.proofs.digest_lines.Goals as goal

pub loop-from-init : goal.loop-from-init
loop-from-init c = (refl, omega arith)

pub shape_of-out-then-chunk-from : goal.shape_of-out-then-chunk-from
shape_of-out-then-chunk-from c = c.lines-chunk.auto.out ∙ c.loop-from.invariant.0

pub slice_bounds-digest-end : goal.slice_bounds-digest-end
slice_bounds-digest-end c =
    let a = c.args in
    chunk_within a.records.now a.total c.loop-from.from c.loop-from.out c.lines-chunk.result c.lines-chunk.new.out c.lines-chunk.ensures

pub slice_bounds-digest-end-in-loop-from : goal.slice_bounds-digest-end-in-loop-from
slice_bounds-digest-end-in-loop-from c =
    let a = c.args in
    sym (length-take-le _ _ (chunk_within a.records.now a.total c.loop-from.from c.loop-from.out c.lines-chunk.result c.lines-chunk.new.out c.lines-chunk.ensures))

pub digest-sum-requires : goal.digest-sum-requires
digest-sum-requires c = c.loop-from.invariant.1

pub loop-from-smaller : goal.loop-from-smaller
loop-from-smaller c =
    let a = c.args in
    let h : c.loop-from.from < c.lines-chunk.result.next = c.if-chunk-from.false in
    let t = chunk_total a.records.now a.total c.loop-from.from c.loop-from.out c.lines-chunk.result c.lines-chunk.new.out c.lines-chunk.ensures h in
    omega arith

pub loop-from-preserved : goal.loop-from-preserved
loop-from-preserved c =
    (c.lines-chunk.auto.out ∙ c.loop-from.invariant.0, c.digest-sum.ensures)

pub lines-chunk-requires : goal.lines-chunk-requires
lines-chunk-requires c = tt

pub returns-then-chunk-from : goal.returns-then-chunk-from
returns-then-chunk-from c = tt
