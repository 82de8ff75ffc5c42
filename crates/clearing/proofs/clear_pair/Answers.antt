-- `clearing::clear_pair` meets its contract: both areas by that of `wipe` (`zero_of`).
use lib.ListN.{length}
use Rattle.laws.proofs.Lists.{zero_of}
use Rattle.clearing.proofs.clear_pair.Goals as goal

pub returns : goal.returns
returns c = (zero_of 0 (length c.args.a.now) _ c.wipe.ensures, zero_of 0 (length c.args.b.now) _ c.wipe-2.ensures)
