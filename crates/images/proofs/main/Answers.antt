-- `images::main` is safe and ends: what is printed of the answer lies in the area.
use Rattle.std.proofs.Common.{sym}
use lib.Seq.{length-take-le}
use Rattle.listing.proofs.Answering.{answer_within}
use Rattle.images.proofs.main.Goals as goal

pub slice_bounds-out-end : goal.slice_bounds-out-end
slice_bounds-out-end c = answer_within _ _ _ c.in-Some.head.total c.in-Some.head.len _ _ _ c.answer.ensures c.in-Some.is

pub slice_bounds-write_all-end : goal.slice_bounds-write_all-end
slice_bounds-write_all-end c = sym (length-take-le _ _ (answer_within _ _ _ c.in-Some.head.total c.in-Some.head.len _ _ _ c.answer.ensures c.in-Some.is))
