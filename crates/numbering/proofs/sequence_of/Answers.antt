-- `numbering::sequence_of` meets its contract: what is taken has a place in the order, and the division finds what stands there.
use Rattle.std.proofs.Common.{Ok}
use mathlib.Core.Path.{sym, ap, ◌∙◌}
use native.Mathlib.Omega.{arith}
use Rattle.numbering.proofs.Answering.{taken, placed, answered, turned_away_lem}
use Rattle.numbering.proofs.sequence_of.Goals as goal

pub overflow_sub-number : goal.overflow_sub-number
overflow_sub-number c =
    let at-args = c.args in
    let t = (taken at-args.planes at-args.order at-args.on.now at-args.number (sym c.takes.ensures ∙ c.if-not-takes.false)).low in
    omega arith

pub walls_at-requires : goal.walls_at-requires
walls_at-requires c =
    let at-args = c.args in
    let t = (taken at-args.planes at-args.order at-args.on.now at-args.number (sym c.takes.ensures ∙ c.if-not-takes.false)) in
    let l = t.low in
    placed at-args.planes at-args.order at-args.on.now at-args.number _ t (omega arith)

pub returns : goal.returns
returns c =
    let at-args = c.args in
    ap Ok c.walls_at.ensures ∙ answered at-args.planes at-args.order at-args.on.now at-args.number (sym c.takes.ensures ∙ c.if-not-takes.false)

pub returns-then-not-takes : goal.returns-then-not-takes
returns-then-not-takes c =
    let at-args = c.args in
    turned_away_lem at-args.planes at-args.order at-args.on.now at-args.number (sym c.takes.ensures ∙ c.if-not-takes.true)
