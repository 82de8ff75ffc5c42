-- `listing::read_words` meets its contract: a word that is no decimal is refused, and so is a number out of its range.
use Rattle.std.proofs.Common.{sym, ◌∙◌}
use Rattle.listing.proofs.Reading.{not_first, not_second, not_third, read_in, read_out}
use Rattle.listing.proofs.read_words.Goals as goal
use Rattle.listing.proofs.read_words.Goals.{then-not-is_decimal-via-then-not-is_decimal, then-not-is_decimal-via-else-not-is_decimal+then-not-is_decimal-2, then-not-is_decimal-via-else-not-is_decimal+else-not-is_decimal-2+then-not-is_decimal-3}

pub returns-then-not-is_decimal : goal.returns-then-not-is_decimal
returns-then-not-is_decimal c =
    let a = c.args in
    elim c.then-not-is_decimal.branch [
      | then-not-is_decimal-via-then-not-is_decimal w ↦
          sym (not_first a.first.now a.second.now a.third.now (sym c.is_decimal.ensures ∙ w.if-not-is_decimal.true))
      | then-not-is_decimal-via-else-not-is_decimal+then-not-is_decimal-2 w ↦
          sym (not_second a.first.now a.second.now a.third.now (sym w.is_decimal-else-not-is_decimal.ensures ∙ w.if-not-is_decimal-2.true))
      | then-not-is_decimal-via-else-not-is_decimal+else-not-is_decimal-2+then-not-is_decimal-3 w ↦
          sym (not_third a.first.now a.second.now a.third.now (sym w.is_decimal-else-not-is_decimal-2.ensures ∙ w.if-not-is_decimal-3.true))
    ]

pub returns-then-in_range : goal.returns-then-in_range
returns-then-in_range c =
    let a = c.args in
    read_in a.first.now a.second.now a.third.now c.value-planes.result c.value-order.result c.value-mask.result
    (sym c.is_decimal.ensures ∙ c.if-not-is_decimal.false) (sym c.is_decimal-else-not-is_decimal.ensures ∙ c.if-not-is_decimal-2.false)
    (sym c.is_decimal-else-not-is_decimal-2.ensures ∙ c.if-not-is_decimal-3.false)
    c.value-planes.ensures c.value-order.ensures c.value-mask.ensures (sym c.in_range.ensures ∙ c.if-in_range.true)

pub returns : goal.returns
returns c =
    let a = c.args in
    read_out a.first.now a.second.now a.third.now c.value-planes.result c.value-order.result c.value-mask.result
    (sym c.is_decimal.ensures ∙ c.if-not-is_decimal.false) (sym c.is_decimal-else-not-is_decimal.ensures ∙ c.if-not-is_decimal-2.false)
    (sym c.is_decimal-else-not-is_decimal-2.ensures ∙ c.if-not-is_decimal-3.false)
    c.value-planes.ensures c.value-order.ensures c.value-mask.ensures (sym c.in_range.ensures ∙ c.if-in_range.false)
