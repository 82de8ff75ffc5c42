-- `listing::put_bytes` meets its contract: a part of the output is the bytes, and the rest is as it was.
use Rattle.std.proofs.Common.{arith}
use Rattle.listing.proofs.Writing.{bytes_put}
use Rattle.listing.proofs.put_bytes.Goals as goal

pub returns : goal.returns
returns c = bytes_put _ _ _ _ _ c.copy_from_slice.ensures.after (omega arith) c.requires
