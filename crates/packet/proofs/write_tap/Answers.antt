-- `packet::write_tap` meets its contract: bit map, order, five words and the gains are stored one after the other.
use Prim.Native.Nat.{◌≤◌, ◌+◌}
use mathlib.Core.Path.{◌≡◌, ap, ◌∙◌}
use native.Mathlib.Omega.{arith}
use lib.ListN.{length, get_or, set, length-set}
use lib.Seq.{sets}
use Rattle.packet.specs.Tap.{Tap}
use Rattle.packet.specs.Bytes.{tap_bytes}
use Rattle.packet.proofs.Areas.{tap_at, tap_at_lem}
use Rattle.packet.proofs.ToBytes.{write_tap_sets}
use Rattle.packet.proofs.write_tap.Goals as goal

pub bounds-out-p-2 : goal.bounds-out-p-2
bounds-out-p-2 c = simp length-set (omega arith)

pub write_word-requires : goal.write_word-requires
write_word-requires c =
    let l0 : length (set (set c.args.out.now c.args.p c.bit_map-m.result) (c.args.p + 1) (get_or c.args.taps.now c.args.at 0)) ≡ length c.args.out.now = simp length-set in
    let h : c.args.p + 2 + 4 ≤ length (set (set c.args.out.now c.args.p c.bit_map-m.result) (c.args.p + 1) (get_or c.args.taps.now c.args.at 0)) = omega arith in
    h

pub write_word-requires-2 : goal.write_word-requires-2
write_word-requires-2 c =
    let l0 : length (set (set c.args.out.now c.args.p c.bit_map-m.result) (c.args.p + 1) (get_or c.args.taps.now c.args.at 0)) ≡ length c.args.out.now = simp length-set in
    let l1 : length c.write_word.new.out ≡ length c.args.out.now = c.write_word.auto.out ∙ l0 in
    let h : c.args.p + 6 + 4 ≤ length c.write_word.new.out = omega arith in
    h

pub write_word-requires-3 : goal.write_word-requires-3
write_word-requires-3 c =
    let l0 : length (set (set c.args.out.now c.args.p c.bit_map-m.result) (c.args.p + 1) (get_or c.args.taps.now c.args.at 0)) ≡ length c.args.out.now = simp length-set in
    let l1 : length c.write_word.new.out ≡ length c.args.out.now = c.write_word.auto.out ∙ l0 in
    let l2 : length c.write_word-2.new.out ≡ length c.args.out.now = c.write_word-2.auto.out ∙ l1 in
    let h : c.args.p + 10 + 4 ≤ length c.write_word-2.new.out = omega arith in
    h

pub write_word-requires-4 : goal.write_word-requires-4
write_word-requires-4 c =
    let l0 : length (set (set c.args.out.now c.args.p c.bit_map-m.result) (c.args.p + 1) (get_or c.args.taps.now c.args.at 0)) ≡ length c.args.out.now = simp length-set in
    let l1 : length c.write_word.new.out ≡ length c.args.out.now = c.write_word.auto.out ∙ l0 in
    let l2 : length c.write_word-2.new.out ≡ length c.args.out.now = c.write_word-2.auto.out ∙ l1 in
    let l3 : length c.write_word-3.new.out ≡ length c.args.out.now = c.write_word-3.auto.out ∙ l2 in
    let h : c.args.p + 14 + 4 ≤ length c.write_word-3.new.out = omega arith in
    h

pub write_word-requires-5 : goal.write_word-requires-5
write_word-requires-5 c =
    let l0 : length (set (set c.args.out.now c.args.p c.bit_map-m.result) (c.args.p + 1) (get_or c.args.taps.now c.args.at 0)) ≡ length c.args.out.now = simp length-set in
    let l1 : length c.write_word.new.out ≡ length c.args.out.now = c.write_word.auto.out ∙ l0 in
    let l2 : length c.write_word-2.new.out ≡ length c.args.out.now = c.write_word-2.auto.out ∙ l1 in
    let l3 : length c.write_word-3.new.out ≡ length c.args.out.now = c.write_word-3.auto.out ∙ l2 in
    let l4 : length c.write_word-4.new.out ≡ length c.args.out.now = c.write_word-4.auto.out ∙ l3 in
    let h : c.args.p + 18 + 4 ≤ length c.write_word-4.new.out = omega arith in
    h

pub write_gains-requires : goal.write_gains-requires
write_gains-requires c =
    let l0 : length (set (set c.args.out.now c.args.p c.bit_map-m.result) (c.args.p + 1) (get_or c.args.taps.now c.args.at 0)) ≡ length c.args.out.now = simp length-set in
    let l1 : length c.write_word.new.out ≡ length c.args.out.now = c.write_word.auto.out ∙ l0 in
    let l2 : length c.write_word-2.new.out ≡ length c.args.out.now = c.write_word-2.auto.out ∙ l1 in
    let l3 : length c.write_word-3.new.out ≡ length c.args.out.now = c.write_word-3.auto.out ∙ l2 in
    let l4 : length c.write_word-4.new.out ≡ length c.args.out.now = c.write_word-4.auto.out ∙ l3 in
    let l5 : length c.write_word-5.new.out ≡ length c.args.out.now = c.write_word-5.auto.out ∙ l4 in
    let h : c.args.p + 22 + 32 ≤ length c.write_word-5.new.out = omega arith in
    (omega (arith, c.requires), h)

pub shape_of-out : goal.shape_of-out
shape_of-out c =
    let l0 : length (set (set c.args.out.now c.args.p c.bit_map-m.result) (c.args.p + 1) (get_or c.args.taps.now c.args.at 0)) ≡ length c.args.out.now = simp length-set in
    let l1 : length c.write_word.new.out ≡ length c.args.out.now = c.write_word.auto.out ∙ l0 in
    let l2 : length c.write_word-2.new.out ≡ length c.args.out.now = c.write_word-2.auto.out ∙ l1 in
    let l3 : length c.write_word-3.new.out ≡ length c.args.out.now = c.write_word-3.auto.out ∙ l2 in
    let l4 : length c.write_word-4.new.out ≡ length c.args.out.now = c.write_word-4.auto.out ∙ l3 in
    let l5 : length c.write_word-5.new.out ≡ length c.args.out.now = c.write_word-5.auto.out ∙ l4 in
    c.write_gains.auto.out ∙ l5

pub returns : goal.returns
returns c =
    let a = c.args in
    let e : tap_at c.bit_map-m.result a.at a.taps.now ≡ _ = tap_at_lem c.bit_map-m.result a.at a.taps.now c.bit_map-m.ensures in
    let n = c.write_gains.ensures.next in
    let m = ap (λ (t : Tap). length (tap_bytes t)) e in
    record {
      stored = write_tap_sets a.out.now c.write_word.new.out c.write_word-2.new.out c.write_word-3.new.out c.write_word-4.new.out c.write_word-5.new.out c.write_gains.new.out a.p (tap_at c.bit_map-m.result a.at a.taps.now)
          c.write_word.ensures c.write_word-2.ensures c.write_word-3.ensures c.write_word-4.ensures c.write_word-5.ensures c.write_gains.ensures.stored ∙ ap (λ (t : Tap). sets a.out.now a.p (tap_bytes t)) e;
      next = omega (arith, n, m);
      short = omega (arith, c.write_gains.ensures.short);
    }
