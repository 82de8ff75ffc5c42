-- `clearing::clear_lists` meets its contract: each of the five areas by that of `wipe` (`zero_of`).
use lib.ListN.{length}
use Rattle.laws.proofs.Lists.{zero_of}
use Rattle.clearing.proofs.clear_lists.Goals as goal

pub returns : goal.returns
returns c = (
  zero_of 0 (length c.args.a.now) _ c.wipe.ensures,
  zero_of 0 (length c.args.b.now) _
      c.wipe-2.ensures,
  zero_of 0 (length c.args.c.now) _ c.wipe-3.ensures,
  zero_of 0 (length c.args.d.now) _
      c.wipe-4.ensures,
  zero_of 0 (length c.args.e.now) _ c.wipe-5.ensures,
)
