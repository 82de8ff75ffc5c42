-- `text::value` meets its contract: each byte of a decimal is a digit, and the fold over one byte more is a push.
use Rattle.std.proofs.lemmas.List.Sums.{fold_more}
use Rattle.listing.proofs.Reading.{decimal_at}
use Rattle.text.specs.Numbers.{push}
use Rattle.text.proofs.value.Goals as goal

pub push-v-requires : goal.push-v-requires
push-v-requires c = (c.loop-d.invariant.0, decimal_at c.args.word.now c.requires.1 c.loop-d.d-index c.loop-d-test.true)

pub loop-d-preserved : goal.loop-d-preserved
loop-d-preserved c =
    (c.push-v.ensures.1, rw (fold_more push c.args.n c.args.word.now c.loop-d.d-index 0 c.loop-d-test.true, ← c.loop-d.invariant.1) c.push-v.ensures.0)
