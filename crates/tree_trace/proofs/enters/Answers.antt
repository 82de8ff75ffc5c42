-- `tree_trace::enters` meets its contract: the test is `slab_of` (`past_is` and `cut_is` of `Slopes.antt`).
use mathlib.Core.Path.{ap, ◌∙◌}
use Rattle.std.specs.Prelude.{is_some}
use Rattle.tree_trace.proofs.Slopes.{past_is, cut_is}
use Rattle.tree_trace.proofs.enters.Goals as goal

pub returns-then-way : goal.returns-then-way
returns-then-way c =
    let a = c.args in
    let p = c.requires in
    λ ahead. c.is_some.ensures ∙ ap is_some (c.past.ensures ∙ past_is a.b a.way a.t p ahead c.slab-e.result c.slab-e.ensures)

pub returns : goal.returns
returns c =
    let a = c.args in
    let p = c.requires in
    λ ahead. c.is_some-2.ensures ∙ ap is_some (cut_is a.b a.way a.t p ahead c.slab-e.result c.slab-e.ensures c.if-way.false)
