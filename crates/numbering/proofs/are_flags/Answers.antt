-- `numbering::are_flags` meets its contract. The loop's invariant: the bytes from i on decide.
use Prim.Native.Nat.{◌+◌}
use mathlib.Core.Path.{refl, sym, ap, ◌∙◌}
use mathlib.Core.Bool.{Bool, ◌&&◌}
use native.Mathlib.Omega.{arith}
use lib.ListN.{drop}
use borrow.Author.Tests.{le-leb, lt-leb}
use Rattle.numbering.specs.Walls.{flags}
use Rattle.numbering.proofs.Laws.{flags_at, flags_all}
use Rattle.numbering.proofs.are_flags.Goals as goal

pub loop-byte-init : goal.loop-byte-init
loop-byte-init c = (omega arith, refl)

pub returns-then-byte-gt1 : goal.returns-then-byte-gt1
returns-then-byte-gt1 c =
    let at-args = c.args in
    sym (sym c.loop-byte.invariant.1 ∙ flags_at at-args.on.now c.loop-byte.byte-index c.loop-byte-test.true
    ∙ ap (λ (b : Bool). b && flags (drop (c.loop-byte.byte-index + 1) at-args.on.now)) (lt-leb _ 1 c.if-byte-gt1.true))

pub loop-byte-preserved : goal.loop-byte-preserved
loop-byte-preserved c =
    let at-args = c.args in (
      omega arith,
      sym (ap (λ (b : Bool). b && flags (drop (c.loop-byte.byte-index + 1) at-args.on.now)) (le-leb _ 1 c.if-byte-gt1.false))
          ∙ sym (flags_at at-args.on.now c.loop-byte.byte-index c.loop-byte-test.true) ∙ c.loop-byte.invariant.1,
    )

pub returns : goal.returns
returns c =
    let at-args = c.args in
    flags_all at-args.on.now c.loop-byte.byte-index c.loop-byte-test.false c.loop-byte.invariant.0 c.loop-byte.invariant.1
