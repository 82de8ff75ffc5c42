-- `listing::is_decimal` meets its contract: digits alone, and one or more.
use Rattle.std.proofs.Common.{not, ap, ◌∙◌, eq-eqb}
use Rattle.listing.proofs.Reading.{decimal_none, decimal_some}
use Rattle.listing.proofs.is_decimal.Goals as goal

pub returns-then-word-ne0 : goal.returns-then-word-ne0
returns-then-word-ne0 c = c.all_digits.ensures ∙ decimal_some c.args.word.now c.if-word-ne0.true

pub returns-else-word-ne0 : goal.returns-else-word-ne0
returns-else-word-ne0 c = ap not (eq-eqb _ 0 c.if-word-ne0.false) ∙ decimal_none c.args.word.now c.if-word-ne0.false
