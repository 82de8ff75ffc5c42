-- `listing::read_request` meets its contract: a long text is refused, else its line is read.
use mathlib.Core.Path.{sym, ap, ◌∙◌}
use native.Mathlib.Omega.{arith}
use Prim.Native.Nat.{ℕ}
use lib.ListN.{take}
use lib.Seq.{length-take-le}
use Rattle.listing.specs.Request.{asked, words}
use Rattle.listing.proofs.Reading.{request_long, request_short, line_within}
use Rattle.listing.proofs.read_request.Goals as goal

pub returns-then-text-gt-TEXT : goal.returns-then-text-gt-TEXT
returns-then-text-gt-TEXT c = request_long c.args.text.now c.if-text-gt-TEXT.true

pub slice_bounds-read_line-end : goal.slice_bounds-read_line-end
slice_bounds-read_line-end c = sym (length-take-le _ _ (omega (arith, line_within c.args.text.now)))

pub returns : goal.returns
returns c =
    let at-args = c.args in
    let t = at-args.text.now in c.read_line.ensures ∙ ap (λ (n : ℕ). asked (words (take n t))) c.line_end-end.ensures ∙ request_short t c.if-text-gt-TEXT.false

pub line_end-end-requires : goal.line_end-end-requires
line_end-end-requires c = tt

pub read_line-requires : goal.read_line-requires
read_line-requires c = tt
