-- `numbering::images` meets its contract: the cut of a block's size is past the limit of images.
use Prim.Native.Nat.{ℕ, ◌*◌, min}
use mathlib.Core.Path.{ap, ◌∙◌}
use native.Mathlib.Omega.{arith}
use Rattle.sequences.specs.Allowed.{most}
use Rattle.numbering.proofs.Laws.{images_cut, block_cut, product}
use Rattle.numbering.proofs.images.Goals as goal

pub block-requires : goal.block-requires
block-requires c = c.requires.0

pub overflow_mul-e : goal.overflow_mul-e
overflow_mul-e c =
    let at-args = c.args in
    let at_pre = c.requires in
    let cut = block_cut at-args.m at-args.order in
    let b = c.block.ensures in
    let h = at_pre.1 in
    let p = product at-args.e c.block.result (omega arith) (omega arith) in
    omega arith

pub returns : goal.returns
returns c =
    let at-args = c.args in
    c.least.ensures ∙ ap (λ (b : ℕ). min most (at-args.e * b)) c.block.ensures ∙ images_cut at-args.m at-args.e at-args.order

pub least-requires : goal.least-requires
least-requires c = tt
