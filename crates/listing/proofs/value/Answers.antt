-- `listing::value` meets its contract: each byte of a decimal is a digit.
use Rattle.std.proofs.Common.{arith}
use Rattle.listing.proofs.Reading.{decimal_at, value_more}
use Rattle.listing.proofs.value.Goals as goal

pub push-n-requires : goal.push-n-requires
push-n-requires c = (omega arith, decimal_at c.args.word.now c.requires c.loop-d.d-index c.loop-d-test.true)

pub loop-d-preserved : goal.loop-d-preserved
loop-d-preserved c = value_more c.args.word.now c.loop-d.n c.loop-d.d-index c.push-n.result c.loop-d-test.true c.loop-d.invariant c.push-n.ensures
