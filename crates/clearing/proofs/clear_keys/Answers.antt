-- `clearing::clear_keys` meets its contract: each of the four areas by that of `wipe` (`zero_of`).
use lib.ListN.{length}
use Rattle.laws.proofs.Lists.{zero_of}
use Rattle.clearing.proofs.clear_keys.Goals as goal

pub returns : goal.returns
returns c = (
  zero_of 0 (length c.args.keys.now) _ c.wipe.ensures,
  zero_of 0 (length c.args.low_keys.now) _ c.wipe-2.ensures,
  zero_of 0 (length
      c.args.words.now) _ c.wipe-3.ensures,
  zero_of 0 (length c.args.scratch.now) _ c.wipe-4.ensures,
)
