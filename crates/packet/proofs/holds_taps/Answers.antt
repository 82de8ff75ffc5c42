-- `packet::holds_taps` meets its contract: the bytes from each turn on hold the taps left where all hold all.
use Prim.Native.Nat.{ℕ, ◌-◌, ◌+◌}
use mathlib.Core.Path.{◌≡◌, sym, ap, ◌∙◌}
use native.Mathlib.Omega.{arith}
use lib.ListN.{drop}
use Rattle.packet.specs.Limits.{head_bytes}
use Rattle.packet.specs.Bytes.{has_only_taps}
use Rattle.packet.proofs.FromBytes.{holds_done, holds_short, holds_go}
use Rattle.packet.proofs.holds_taps.Goals as goal

pub loop-i-init : goal.loop-i-init
loop-i-init c =
    let a = c.args in
    let e : a.count ≡ a.count - 0 = omega arith in
    (omega arith, omega arith, ap (λ (k : ℕ). has_only_taps k (drop head_bytes a.b.now)) e)

pub returns-then-b-at : goal.returns-then-b-at
returns-then-b-at c =
    let a = c.args in
    sym (c.loop-i.invariant.2 ∙ holds_short a.count c.loop-i.i c.loop-i.at a.b.now c.loop-i-test.true (omega arith))

pub returns-then-b-at-2 : goal.returns-then-b-at-2
returns-then-b-at-2 c =
    let a = c.args in
    let e = c.tap_size-s.ensures.0 in
    sym (c.loop-i.invariant.2 ∙ holds_short a.count c.loop-i.i c.loop-i.at a.b.now c.loop-i-test.true (omega arith))

pub loop-i-preserved : goal.loop-i-preserved
loop-i-preserved c =
    let a = c.args in
    let e = c.tap_size-s.ensures.0 in
    (omega arith, omega arith, c.loop-i.invariant.2 ∙ holds_go a.count c.loop-i.i c.loop-i.at a.b.now c.loop-i-test.true (omega arith) ∙ ap (λ (k : ℕ). has_only_taps (a.count - (c.loop-i.i + 1)) (drop (c.loop-i.at + k) a.b.now)) (sym e))

pub returns : goal.returns
returns c =
    let a = c.args in sym (c.loop-i.invariant.2 ∙ holds_done a.count c.loop-i.i c.loop-i.at a.b.now c.loop-i-test.false)
