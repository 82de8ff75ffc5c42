-- `numbering::block` meets its contract. The loop's invariant: b is the size of a block of k planes.
use Prim.Native.Nat.{ℕ, ◌+◌, ◌*◌, min}
use mathlib.Core.Path.{◌≡◌, sym, ap, ◌∙◌}
use native.Mathlib.Omega.{arith}
use Rattle.numbering.specs.Contract.{cap, block_of}
use Rattle.numbering.proofs.Laws.{block_more, block_none, block_cut, product}
use Rattle.numbering.proofs.block.Goals as goal

pub loop-k-init : goal.loop-k-init
loop-k-init c = (omega arith, block_none c.args.m)

pub overflow_mul-m : goal.overflow_mul-m
overflow_mul-m c =
    let at-args = c.args in
    let at_pre = c.requires in
    let cut = block_cut at-args.m c.loop-k.k in
    let h = at_pre in
    let i = c.loop-k.invariant.1 in
    let p = product at-args.m c.loop-k.b (omega arith) (omega arith) in
    omega arith

pub overflow_add-m : goal.overflow_add-m
overflow_add-m c =
    let at-args = c.args in
    let at_pre = c.requires in
    let cut = block_cut at-args.m c.loop-k.k in
    let h = at_pre in
    let i = c.loop-k.invariant.1 in
    let p = product at-args.m c.loop-k.b (omega arith) (omega arith) in
    omega arith

pub loop-k-preserved : goal.loop-k-preserved
loop-k-preserved c =
    let at-args = c.args in (
      omega arith,
      c.least-b.ensures ∙ ap (λ (b : ℕ). min cap (1 + at-args.m * b)) c.loop-k.invariant.1 ∙ sym (block_more at-args.m c.loop-k.k),
    )

pub returns : goal.returns
returns c =
    let at-args = c.args in
    c.loop-k.invariant.1 ∙ ap (block_of at-args.m)
    (let i = c.loop-k.invariant.0 in let t = c.loop-k-test.false in let e : c.loop-k.k ≡ at-args.d = omega arith in e)

pub least-b-requires : goal.least-b-requires
least-b-requires c = tt
