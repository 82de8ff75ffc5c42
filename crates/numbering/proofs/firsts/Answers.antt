-- `numbering::firsts` meets its contract. The loop's invariant: e of the planes below p may come first.
use Prim.Native.Nat.{ℕ, ◌+◌}
use mathlib.Core.Path.{◌≡◌, refl, sym, ap, ap₂, ◌∙◌}
use mathlib.Core.List.{[]}
use native.Mathlib.Omega.{arith}
use lib.ListN.{length}
use Rattle.sequences.specs.Allowed.{may}
use Rattle.sequences.specs.Count.{count}
use Rattle.numbering.proofs.Laws.{count_le, firsts_more}
use Rattle.numbering.proofs.firsts.Goals as goal

pub loop-byte-init : goal.loop-byte-init
unfolding count
loop-byte-init c = (omega arith, refl)

pub overflow_add-e : goal.overflow_add-e
overflow_add-e c =
    let at-args = c.args in
    let l = count_le (may at-args.on.now []) c.loop-byte.byte-index in
    let m = count_le (may at-args.on.now []) (c.loop-byte.byte-index + 1) in
    let f = firsts_more at-args.on.now c.loop-byte.byte-index in
    let g = c.counts-e.ensures in
    let i = c.loop-byte.invariant.1 in
    omega arith

pub loop-byte-preserved : goal.loop-byte-preserved
loop-byte-preserved c =
    let at-args = c.args in (
      omega arith,
      ap₂ (λ (a b : ℕ). a + b) c.loop-byte.invariant.1 c.counts-e.ensures ∙ sym (firsts_more at-args.on.now c.loop-byte.byte-index),
    )

pub returns : goal.returns
returns c =
    let at-args = c.args in
    c.loop-byte.invariant.1 ∙ ap (count (may at-args.on.now []))
    (let i = c.loop-byte.invariant.0 in let t = c.loop-byte-test.false in let e : c.loop-byte.byte-index ≡ length at-args.on.now = omega arith in e)
