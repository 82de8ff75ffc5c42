-- `listing::read_line` meets its contract: where there is no space there is one word, else the words behind it are read.
use Rattle.std.proofs.Common.{sym, ap, ◌∙◌}
use Rattle.listing.specs.Request.{asked}
use Rattle.listing.proofs.Reading.{words_part, words_none, space_found, space_lacks}
use Rattle.listing.proofs.read_line.Goals as goal

pub returns : goal.returns
returns c =
    let a = c.args in
    let f = space_found a.line.now c.in_ok-p.p (sym c.find.ensures ∙ c.in_ok-p.was) in
    c.read_rest.ensures ∙ ap asked (words_part a.line.now c.in_ok-p.p f.0 f.1)

pub returns-in_err-p : goal.returns-in_err-p
returns-in_err-p c =
    let a = c.args in
    c.from_residual.ensures ∙ sym (ap asked (words_none a.line.now (space_lacks a.line.now (sym c.find.ensures ∙ c.in_err-p.was))))
