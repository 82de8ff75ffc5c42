-- `packet::read_taps` meets its contract: what is left to store gives the same area from each turn on.
use Prim.Native.Nat.{◌-◌, ◌+◌, ℕ}
use mathlib.Core.Path.{◌≡◌, refl, ap, ◌∙◌}
use native.Mathlib.Omega.{arith}
use lib.ListN.{drop}
use lib.Seq.{sets}
use Rattle.packet.specs.Limits.{head_bytes}
use Rattle.packet.specs.Tap.{all_words}
use Rattle.packet.specs.Bytes.{has_only_taps, taps_in}
use Rattle.packet.proofs.FromBytes.{holds_room, holds_next, read_taps_sets, read_taps_done}
use Rattle.packet.proofs.read_taps.Goals as goal

pub loop-i-init : goal.loop-i-init
loop-i-init c =
    let a = c.args in
    let e : a.count - 0 ≡ a.count = omega arith in
    (omega arith, refl, omega arith, ap (λ (k : ℕ). has_only_taps k (drop head_bytes a.b.now)) e ∙ c.requires.1, ap (λ (k : ℕ). sets a.area.now 0 (all_words (taps_in k (drop head_bytes a.b.now)))) e)

pub read_tap-requires : goal.read_tap-requires
read_tap-requires c =
    let a = c.args in
    let r = holds_room a.count c.loop-i.i c.loop-i.at a.b.now c.loop-i-test.true c.loop-i.invariant.3 in
    (omega arith, omega arith)

pub bounds-b-at : goal.bounds-b-at
bounds-b-at c =
    let a = c.args in
    let r = holds_room a.count c.loop-i.i c.loop-i.at a.b.now c.loop-i-test.true c.loop-i.invariant.3 in
    omega arith

pub overflow_add-at : goal.overflow_add-at
overflow_add-at c =
    let a = c.args in
    let r = holds_room a.count c.loop-i.i c.loop-i.at a.b.now c.loop-i-test.true c.loop-i.invariant.3 in
    omega (arith, c.tap_size-at.ensures.0)

pub loop-i-preserved : goal.loop-i-preserved
loop-i-preserved c =
    let a = c.args in
    let s = c.tap_size-at.ensures.0 in
    let r = holds_room a.count c.loop-i.i c.loop-i.at a.b.now c.loop-i-test.true c.loop-i.invariant.3 in (
      omega arith,
      c.read_tap.auto.area ∙ c.loop-i.invariant.1,
      omega arith,
      ap (λ (k : ℕ). has_only_taps (a.count - (c.loop-i.i + 1)) (drop (c.loop-i.at + k) a.b.now)) s ∙ holds_next a.count c.loop-i.i c.loop-i.at a.b.now c.loop-i-test.true c.loop-i.invariant.3,
      read_taps_sets a.count c.loop-i.i c.loop-i.at a.b.now c.loop-i.area c.read_tap.new.area _ c.tap_size-at.result c.loop-i-test.true s c.read_tap.ensures c.loop-i.invariant.4,
    )

pub shape_of-area : goal.shape_of-area
shape_of-area c = c.loop-i.invariant.1

pub returns : goal.returns
returns c =
    read_taps_done c.args.count c.loop-i.i c.loop-i.at c.args.b.now c.loop-i.area _ c.loop-i-test.false c.loop-i.invariant.4
