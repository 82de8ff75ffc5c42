-- No packet of the old format is read as one of the new: a packet has an even count of bytes (10, 22 a tap and 4 a gain), an old one has an odd count.
--     old_refused     whatever its taps, an old packet is refused with 8
use Prim.Native.Nat.{ℕ, zero, suc, ◌*◌, ◌/◌, ◌%◌, ◌≤◌}
use mathlib.Core.Path.{◌≡◌, refl}
use mathlib.Core.Bool.{Bool, true, false, cond}
use mathlib.Core.List.{List, [], ◌∷◌}
use native.Mathlib.Omega.{arith}
use lib.ListN.{length, get_or, drop, length-drop, length-append}
use lib.Dec.{leb, eqb}
use borrow.Author.Tests.{leb-true, eqb-true}
use Rattle.std.specs.Prelude.{Some}
use Rattle.refusals.specs.declared.Refusal.TheVariants.{Bytes}
use Rattle.packet.specs.Limits.{head_bytes, area_words}
use Rattle.packet.specs.Tap.{Tap}
use Rattle.packet.specs.Bytes.{word, size_of_tap, gain_bytes, tap_bytes, taps_bytes, has_only_taps, count_in}
use Rattle.packet.specs.Reader.{whole, refused_read}
use Rattle.packet.specs.Old.{old_encode}
use Rattle.packet.proofs.Runs.{and_both}
use Rattle.packet.proofs.ToBytes.{gain_length}
use Rattle.packet.proofs.Answers.{not_whole}

-- ---- a packet has an even count of bytes

holds_even : (n : ℕ) (bs : List ℕ) → has_only_taps n bs ≡ true → length bs % 2 ≡ 0
unfolding has_only_taps
holds_even zero bs e = let z : length bs ≡ 0 = eqb-true (length bs) 0 e in omega arith
holds_even (suc n) bs e =
    let size = size_of_tap (get_or bs 0 0) in
    let w = and_both (leb size (length bs)) (has_only_taps n (drop size bs)) e in
    let room : size ≤ length bs = leb-true size (length bs) w.0 in
    let rest : length (drop size bs) % 2 ≡ 0 = holds_even n (drop size bs) w.1 in
    let cut = length-drop size bs in
    omega arith

whole_even : (bs : List ℕ) → whole bs ≡ true → length bs % 2 ≡ 0
whole_even bs e =
    let w = and_both (leb head_bytes (length bs)) (has_only_taps (count_in bs) (drop head_bytes bs)) e in
    let room : head_bytes ≤ length bs = leb-true head_bytes (length bs) w.0 in
    let rest : length (drop head_bytes bs) % 2 ≡ 0 = holds_even (count_in bs) (drop head_bytes bs) w.1 in
    let cut = length-drop head_bytes bs in
    omega arith

-- ---- and so have taps

gains_even : (m : ℕ) (gs : List ℕ) → length (gain_bytes m gs) % 2 ≡ 0
unfolding gain_bytes
gains_even m [] = refl
gains_even m (g ∷ gs) =
    let rest : length (gain_bytes (m / 2) gs) % 2 ≡ 0 = gains_even (m / 2) gs in
    let one : length (cond (eqb (m % 2) 1) (word g) []) ≡ m % 2 * 4 = gain_length m g in
    let all = length-append (cond (eqb (m % 2) 1) (word g) []) (gain_bytes (m / 2) gs) in
    omega arith

taps_even : (ts : List Tap) → length (taps_bytes ts) % 2 ≡ 0
unfolding taps_bytes
taps_even [] = refl
taps_even (t ∷ ts) =
    let rest : length (taps_bytes ts) % 2 ≡ 0 = taps_even ts in
    let gains : length (gain_bytes t.bits t.gains) % 2 ≡ 0 = gains_even t.bits t.gains in
    let all = length-append (tap_bytes t) (taps_bytes ts) in
    omega arith

-- ---- an old packet

not_true : (b : Bool) → (b ≡ true → ⊥) → b ≡ false
not_true true h = absurd (h refl)
not_true false h = refl

pub old_refused : (images rays : ℕ) (ts : List Tap) (a : List ℕ) → area_words ≤ length a → refused_read (old_encode images rays ts) a ≡ Some Bytes
old_refused images rays ts a room =
    let bs = old_encode images rays ts in
    let taps : length (taps_bytes ts) % 2 ≡ 0 = taps_even ts in
    not_whole bs a room (not_true (whole bs) (λ e. let even : length bs % 2 ≡ 0 = whole_even bs e in omega arith))
