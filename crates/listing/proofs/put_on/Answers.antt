-- `listing::put_on` meets its contract. The loop's invariant: what is stored, with the bits that are left behind it, is the whole.
use Prim.Native.Nat.{ℕ, ◌%◌}
use mathlib.Core.Path.{refl, ◌∙◌}
use native.Mathlib.Omega.{arith}
use lib.ListN.{length, length-set}
use Rattle.listing.proofs.Answering.{on_start, on_more, on_all}
use Rattle.listing.proofs.put_on.Goals as goal

pub loop-bit-init : goal.loop-bit-init
loop-bit-init c = (refl, on_start c.args.on.now c.args.mask)

pub loop-bit-preserved : goal.loop-bit-preserved
loop-bit-preserved c =
    let n : ℕ = length c.args.on.now in
    let i = c.loop-bit.invariant in
    let l = i.0 in (
      length-set c.loop-bit.on c.loop-bit.bit-index (c.loop-bit.m % 2) ∙ i.0,
      on_more c.loop-bit.on n c.loop-bit.bit-index c.loop-bit.m (omega arith) ∙ i.1,
    )

pub returns : goal.returns
returns c =
    let n : ℕ = length c.args.on.now in
    let i = c.loop-bit.invariant in
    let l = i.0 in
    on_all c.loop-bit.on n c.loop-bit.bit-index c.loop-bit.m (omega arith) ∙ i.1
