-- `numbering::takes` meets its contract: its tests are the definition's, one after the other.
use mathlib.Core.Path.{sym, ◌∙◌}
use mathlib.Core.List.{[]}
use native.Mathlib.Omega.{arith}
use lib.ListN.{length}
use borrow.Author.Tests.{eq-eqb, ne_eqb}
use Rattle.sequences.specs.Allowed.{may}
use Rattle.numbering.specs.Walls.{takes}
use Rattle.numbering.proofs.Laws.{count_le}
use Rattle.numbering.proofs.Answering.{one_to_low, one_to_high}
use Rattle.numbering.proofs.takes.Goals as goal

pub returns-else-one_to : goal.returns-else-one_to
unfolding takes
returns-else-one_to c = rw (← c.one_to.ensures, c.if-one_to.false)

pub returns-else-one_to-2 : goal.returns-else-one_to-2
unfolding takes
returns-else-one_to-2 c =
    rw (← c.one_to.ensures, c.if-one_to.true, ← c.one_to-2.ensures, c.if-one_to-2.false)

pub returns-then-on-planes : goal.returns-then-on-planes
unfolding takes
returns-then-on-planes c =
    let at-args = c.args in
    rw (
      ← c.one_to.ensures,
      c.if-one_to.true,
      ← c.one_to-2.ensures,
      c.if-one_to-2.true,
      ne_eqb (length at-args.on.now) at-args.planes
          c.if-on-planes.true,
    )

pub returns-else-are_flags : goal.returns-else-are_flags
unfolding takes
returns-else-are_flags c =
    let at-args = c.args in
    rw (
      ← c.one_to.ensures,
      c.if-one_to.true,
      ← c.one_to-2.ensures,
      c.if-one_to-2.true,
      eq-eqb (length at-args.on.now) at-args.planes
          c.if-on-planes.false,
      ← c.are_flags.ensures,
      c.if-are_flags.false,
    )

pub overflow_sub-planes : goal.overflow_sub-planes
overflow_sub-planes c =
    let at-args = c.args in
    let l = one_to_low 256 at-args.planes (sym c.one_to-2.ensures ∙ c.if-one_to-2.true) in
    omega arith

pub firsts-requires : goal.firsts-requires
firsts-requires c =
    let at-args = c.args in
    let l = one_to_high 256 at-args.planes (sym c.one_to-2.ensures ∙ c.if-one_to-2.true) in
    let n = c.if-on-planes.false in
    omega arith

pub images-requires : goal.images-requires
images-requires c =
    let at-args = c.args in
    let h = one_to_high 256 at-args.planes (sym c.one_to-2.ensures ∙ c.if-one_to-2.true) in
    let l = one_to_low 256 at-args.planes (sym c.one_to-2.ensures ∙ c.if-one_to-2.true) in
    let n = c.if-on-planes.false in
    let e = c.firsts.ensures in
    let k = count_le (may at-args.on.now []) (length at-args.on.now) in
    (omega arith, omega arith)

pub returns : goal.returns
unfolding takes
returns c =
    let at-args = c.args in
    rw (
      ← c.one_to.ensures,
      c.if-one_to.true,
      ← c.one_to-2.ensures,
      c.if-one_to-2.true,
      eq-eqb (length at-args.on.now) at-args.planes
          c.if-on-planes.false,
      ← c.are_flags.ensures,
      c.if-are_flags.true,
      ← c.firsts.ensures,
      ← c.images.ensures,
    ) c.one_to-3.ensures

pub one_to-requires : goal.one_to-requires
one_to-requires c = tt

pub one_to-requires-2 : goal.one_to-requires-2
one_to-requires-2 c = tt

pub are_flags-requires : goal.are_flags-requires
are_flags-requires c = tt

pub one_to-requires-3 : goal.one_to-requires-3
one_to-requires-3 c = tt
