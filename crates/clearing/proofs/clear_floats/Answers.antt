-- `clearing::clear_floats` meets its contract: each of the three areas by that of `wipe` (`zero_of`).
use lib.ListN.{length}
use Rattle.laws.proofs.Lists.{zero_of}
use Rattle.float.specs.Literals.{zero32}
use Rattle.clearing.proofs.clear_floats.Goals as goal

pub returns : goal.returns
returns c =
    (zero_of zero32 (length c.args.a.now) _ c.wipe.ensures, zero_of zero32 (length c.args.b.now) _ c.wipe-2.ensures, zero_of zero32 (length c.args.c.now) _ c.wipe-3.ensures)
