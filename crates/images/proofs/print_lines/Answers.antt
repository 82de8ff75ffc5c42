-- `images::print_lines` is safe and ends: a chunk with a line ends past where it began and within the total.
use Rattle.std.proofs.Common.{◌<◌, arith}
use Rattle.listing.proofs.Writing.{chunk_total}
use Rattle.images.proofs.print_lines.Goals as goal

pub loop-from-smaller : goal.loop-from-smaller
loop-from-smaller g c =
    let a = c.args in
    let h : c.loop-from.from < c.lines-chunk.result.next = c.if-chunk-from.false in
    let t = chunk_total a.records.now a.total c.loop-from.from c.loop-from.out c.lines-chunk.result c.lines-chunk.new.out c.lines-chunk.ensures h in
    omega arith
