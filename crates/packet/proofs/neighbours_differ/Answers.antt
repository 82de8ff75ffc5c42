-- `packet::neighbours_differ` meets its contract: what is left to compare gives the same answer from each turn on.
use Prim.Native.Nat.{◌-◌, ◌+◌}
use mathlib.Core.Path.{◌≡◌, refl, sym, ◌∙◌}
use native.Mathlib.Omega.{arith}
use borrow.Author.Tests.{eq-eqb, ne_eqb}
use Rattle.packet.proofs.Repeats.{repeats_step, repeats_done}
use Rattle.packet.proofs.neighbours_differ.Goals as goal

pub loop-i-init : goal.loop-i-init
loop-i-init c = (omega arith, refl)

pub returns-then-keys-i : goal.returns-then-keys-i
returns-then-keys-i c =
    let k = c.args.keys.now in
    sym (c.loop-i.invariant.1 ∙ rw (repeats_step k c.loop-i.i c.loop-i.invariant.0 c.loop-i-test.true, eq-eqb _ _ c.if-keys-i.true))

pub loop-i-preserved : goal.loop-i-preserved
loop-i-preserved c =
    let k = c.args.keys.now in
    let e : c.loop-i.i + 1 - 1 ≡ c.loop-i.i = omega arith in
    (omega arith, c.loop-i.invariant.1 ∙ rw (repeats_step k c.loop-i.i c.loop-i.invariant.0 c.loop-i-test.true, ne_eqb _ _ c.if-keys-i.false, e))

pub returns : goal.returns
returns c = sym (c.loop-i.invariant.1 ∙ repeats_done c.args.keys.now c.loop-i.i c.loop-i.invariant.0 c.loop-i-test.false)
