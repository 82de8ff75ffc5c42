-- `packet::all_floats_valid_by` meets its contract: the test of the packet's taps from each turn on is the test of all of them; the area's taps are theirs but for the bit maps.
use Prim.Native.Nat.{◌-◌, ◌+◌, ◌*◌, ℕ}
use mathlib.Core.Path.{◌≡◌, sym, ap, ◌∙◌}
use mathlib.Core.List.{map}
use native.Mathlib.Omega.{arith}
use lib.ListN.{drop}
use Rattle.packet.specs.Limits.{head_bytes, tap_words}
use Rattle.packet.specs.Tap.{stored_tap}
use Rattle.packet.specs.Bytes.{has_only_taps, taps_in}
use Rattle.packet.specs.Refusals.{all, valid_floats}
use Rattle.packet.specs.Helpers.{in_area}
use Rattle.packet.proofs.Areas.{from_start}
use Rattle.packet.proofs.FromBytes.{holds_room, holds_next, back_head, floats_in, floats_no, floats_yes, taps_in_done}
use Rattle.packet.proofs.all_floats_valid_by.Goals as goal

pub loop-i-init : goal.loop-i-init
loop-i-init c =
    let a = c.args in
    let e : a.count ≡ a.count - 0 = omega arith in (
      omega arith,
      omega arith,
      ap (λ (k : ℕ). has_only_taps k (drop head_bytes a.b.now)) (sym e) ∙ c.requires.head_bytes_in_bounds.1,
      from_start a.count a.taps.now ∙ c.requires.taps_value ∙ ap (λ (k : ℕ). map in_area (taps_in k (drop head_bytes a.b.now))) e,
      ap (λ (k : ℕ). all valid_floats (taps_in k (drop head_bytes a.b.now))) e,
    )

pub bounds-b-at : goal.bounds-b-at
bounds-b-at c =
    let a = c.args in
    let r = holds_room a.count c.loop-i.i c.loop-i.at a.b.now c.loop-i-test.true c.loop-i.invariant.2 in
    omega arith

pub returns-else-has_valid_floats : goal.returns-else-has_valid_floats
returns-else-has_valid_floats c =
    let a = c.args in
    let h = back_head a.count c.loop-i.i c.loop-i.at a.b.now a.taps.now c.loop-i-test.true c.loop-i.invariant.3 in
    sym (c.loop-i.invariant.4 ∙ floats_no a.count c.loop-i.i c.loop-i.at a.b.now c.loop-i-test.true (sym (floats_in c.loop-i.at a.b.now (stored_tap (drop (c.loop-i.i * tap_words) a.taps.now)) h.0) ∙ sym c.has_valid_floats.ensures ∙ c.if-has_valid_floats.false))

pub bounds-b-at-in-loop-i : goal.bounds-b-at-in-loop-i
bounds-b-at-in-loop-i c =
    let a = c.args in
    let r = holds_room a.count c.loop-i.i c.loop-i.at a.b.now c.loop-i-test.true c.loop-i.invariant.2 in
    omega arith

pub overflow_add-at : goal.overflow_add-at
overflow_add-at c =
    let a = c.args in
    let r = holds_room a.count c.loop-i.i c.loop-i.at a.b.now c.loop-i-test.true c.loop-i.invariant.2 in
    omega (arith, c.tap_size-at.ensures.0)

pub loop-i-preserved : goal.loop-i-preserved
loop-i-preserved c =
    let a = c.args in
    let s = c.tap_size-at.ensures.0 in
    let r = holds_room a.count c.loop-i.i c.loop-i.at a.b.now c.loop-i-test.true c.loop-i.invariant.2 in
    let h = back_head a.count c.loop-i.i c.loop-i.at a.b.now a.taps.now c.loop-i-test.true c.loop-i.invariant.3 in (
      omega arith,
      omega arith,
      ap (λ (k : ℕ). has_only_taps (a.count - (c.loop-i.i + 1)) (drop (c.loop-i.at + k) a.b.now)) s ∙ holds_next a.count c.loop-i.i c.loop-i.at a.b.now c.loop-i-test.true c.loop-i.invariant.2,
      h.1 ∙ ap (λ (k : ℕ). map in_area (taps_in (a.count - (c.loop-i.i + 1)) (drop (c.loop-i.at + k) a.b.now))) (sym s),
      c.loop-i.invariant.4 ∙ floats_yes a.count c.loop-i.i c.loop-i.at a.b.now c.loop-i-test.true (sym (floats_in c.loop-i.at a.b.now (stored_tap (drop (c.loop-i.i * tap_words) a.taps.now)) h.0) ∙ sym c.has_valid_floats.ensures ∙ c.if-has_valid_floats.true)
          ∙ ap (λ (k : ℕ). all valid_floats (taps_in (a.count - (c.loop-i.i + 1)) (drop (c.loop-i.at + k) a.b.now))) (sym s),
    )

pub returns : goal.returns
unfolding all
returns c =
    sym (c.loop-i.invariant.4 ∙ ap (all valid_floats) (taps_in_done c.args.count c.loop-i.i c.loop-i.at c.args.b.now c.loop-i-test.false))
