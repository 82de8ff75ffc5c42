-- `scene::areas_short` meets its contract: a loop over the table, where from area i on one is short just where one of all is.
use mathlib.Core.Path.{◌≡◌, refl, sym, ◌∙◌}
use native.Mathlib.Omega.{arith}
use borrow.Author.Tests.{lt-ltb, le-ltb}
use lib.ListN.{length}
use Rattle.scene.proofs.Rooms.{short_step, short_done, small}
use Rattle.scene.proofs.areas_short.Goals as goal

pub loop-i-init : goal.loop-i-init
loop-i-init c = (omega arith, refl)

pub overflow_mul-i : goal.overflow_mul-i
overflow_mul-i c = omega (arith, small c.loop-i.i c.args.t c.args.c)

pub overflow_mul-i-in-loop-i : goal.overflow_mul-i-in-loop-i
overflow_mul-i-in-loop-i c = omega (arith, small c.loop-i.i c.args.t c.args.c)

pub overflow_add-i : goal.overflow_add-i
overflow_add-i c = omega (arith, small c.loop-i.i c.args.t c.args.c)

pub overflow_add-i-in-loop-i : goal.overflow_add-i-in-loop-i
overflow_add-i-in-loop-i c = omega (arith, small c.loop-i.i c.args.t c.args.c)

pub returns-then-lens-i : goal.returns-then-lens-i
returns-then-lens-i c =
    let a = c.args in
    let len : length a.lens ≡ 20 = c.well_formed.1.1.0.1.0.1 in
    rw (← c.loop-i.invariant.1, short_step a.lens c.loop-i.i a.t a.c (omega arith) (omega arith), lt-ltb _ _ c.if-lens-i.true)

pub loop-i-preserved : goal.loop-i-preserved
loop-i-preserved c =
    let a = c.args in
    let len : length a.lens ≡ 20 = c.well_formed.1.1.0.1.0.1 in
    let at_i = short_step a.lens c.loop-i.i a.t a.c (omega arith) (omega arith) in
    (omega arith, sym (at_i ∙ rw (le-ltb _ _ c.if-lens-i.false)) ∙ c.loop-i.invariant.1)

pub returns : goal.returns
returns c =
    let a = c.args in
    sym (short_done a.lens c.loop-i.i a.t a.c (omega arith)) ∙ c.loop-i.invariant.1
