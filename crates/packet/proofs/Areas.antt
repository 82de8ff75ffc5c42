-- The taps of an area, from tap i on and word by word: what the loops over an area keep. By one step of each definition.
use Prim.Native.Nat.{ℕ, zero, suc, ◌+◌, ◌-◌, ◌*◌, ◌/◌, ◌%◌, ◌^◌, ◌≤◌, ◌<◌}
use mathlib.Core.Path.{◌≡◌, refl, sym, ap, ◌∙◌}
use mathlib.Core.Bool.{Bool, true, false, cond, not, ◌&&◌, ◌||◌}
use mathlib.Core.List.{List, [], ◌∷◌, map}
use native.Mathlib.Nat.{pow-succ', le_trans, add-zero}
use lib.Pow.{pow_mono}
use native.Mathlib.Numerals.{add-one}
use native.Mathlib.Omega.{arith}
use lib.ListN.{length, get_or, take, drop, length-take, length-drop, drop_of_length-le}
use lib.Seq.{drop-drop, drop-cons, get_or-take, get_or-drop}
use lib.Dec.{leb, eqb}
use borrow.Author.Tests.{leb-true}
use Rattle.packet.specs.Limits.{most_order, bands, fixed_words, tap_words}
use Rattle.packet.specs.Floats.{zero_bits, finite_bits, positive_bits}
use Rattle.packet.specs.Tap.{Tap, stored_tap, taps_of, bits_of_gains}
use Rattle.packet.specs.Refusals.{all, valid_gain, valid_gains, in_range, valid_floats, valid_floats_by, number_of}
use Rattle.packet.specs.Helpers.{finite_gains}
use Rattle.packet.proofs.Runs.{and_both, sub_done, sub_step}

-- ---- taps of an area, from tap i on

abbrev pub taps_from : ℕ → ℕ → List ℕ → List Tap
taps_from n i a = taps_of (n - i) (drop (i * tap_words) a)

pub from_start : (n : ℕ) (a : List ℕ) → taps_from n 0 a ≡ taps_of n a
from_start n a =
    let e : n - 0 ≡ n = omega arith in
    ap (λ (k : ℕ). taps_of k a) e

pub from_step : (n i : ℕ) (a : List ℕ) → i < n → taps_from n i a ≡ stored_tap (drop (i * tap_words) a) ∷ taps_from n (i + 1) a
unfolding taps_of
from_step n i a h =
    let e : i * tap_words + tap_words ≡ (i + 1) * tap_words = omega arith in
    rw (sub_step n i h) (ap (λ (l : List ℕ). stored_tap (drop (i * tap_words) a) ∷ taps_of (n - (i + 1)) l) (drop-drop tap_words (i * tap_words) a ∙ ap (λ (k : ℕ). drop k a) e))

pub from_done : (n i : ℕ) (a : List ℕ) → n ≤ i → taps_from n i a ≡ []
unfolding taps_of
from_done n i a h = rw (sub_done n i h)

pub taps_length : (n : ℕ) (a : List ℕ) → length (taps_of n a) ≡ n
unfolding taps_of
taps_length zero a = refl
taps_length (suc n) a = ap suc (taps_length n (drop tap_words a))

-- ---- the gains of a tap in an area

abbrev pub window : ℕ → ℕ → List ℕ → List ℕ
window at k a = drop k (take bands (drop at a))

pub window_step : (at k : ℕ) (a : List ℕ) → k < bands → at + bands ≤ length a → window at k a ≡ get_or a (at + k) 0 ∷ window at (k + 1) a
window_step at k a h r =
    let l : k < length (take bands (drop at a)) = simp (length-take, length-drop) (omega arith) in
    drop-cons (take bands (drop at a)) k 0 l
    ∙ ap (λ (x : ℕ). x ∷ drop (suc k) (take bands (drop at a))) (get_or-take bands (drop at a) k 0 h ∙ get_or-drop at a k 0)
    ∙ ap (λ (j : ℕ). get_or a (at + k) 0 ∷ window at j a) (sym (add-one k))

pub window_done : (at k : ℕ) (a : List ℕ) → bands ≤ k → window at k a ≡ []
window_done at k a h =
    let l : length (take bands (drop at a)) ≤ k = simp length-take (omega arith) in
    drop_of_length-le (take bands (drop at a)) l

-- the bit map of few gains is small
pub bits_low : (l : List ℕ) → bits_of_gains l < 2 ^ length l
unfolding bits_of_gains
bits_low [] = omega arith
bits_low (g ∷ gs) =
    let ih : bits_of_gains gs < 2 ^ length gs = bits_low gs in
    let e : 2 ^ suc (length gs) ≡ 2 * 2 ^ length gs = pow_two (length gs) in
    go (zero_bits g) ih e
  where
    go : (z : Bool) → bits_of_gains gs < 2 ^ length gs → 2 ^ suc (length gs) ≡ 2 * 2 ^ length gs → cond z 0 1 + 2 * bits_of_gains gs < 2 ^ suc (length gs)
    go true ih e = omega arith
    go false ih e = omega arith

    pow_two : (n : ℕ) → 2 ^ suc n ≡ 2 * 2 ^ n
    pow_two n = pow-succ' 2 n

pub bits_window : (at k : ℕ) (a : List ℕ) → 0 < k → bits_of_gains (window at k a) < 128
bits_window at k a h =
    let l : length (window at k a) ≤ 7 = simp (length-drop, length-take) (omega arith) in
    le_trans (bits_low (window at k a)) (pow_mono l)

-- ---- every tap

module _ (p : Tap → Bool) (n i : ℕ) (a : List ℕ) where
  pub all_no : i < n → p (stored_tap (drop (i * tap_words) a)) ≡ false → all p (taps_from n i a) ≡ false
  unfolding all
  all_no h e = rw (from_step n i a h, e)

  pub all_yes : i < n → p (stored_tap (drop (i * tap_words) a)) ≡ true → all p (taps_from n i a) ≡ all p (taps_from n (i + 1) a)
  unfolding all
  all_yes h e = rw (from_step n i a h, e)

  pub all_done : n ≤ i → all p (taps_from n i a) ≡ true
  unfolding all
  all_done h = rw (from_done n i a h)

-- ---- every gain

module _ (at k m : ℕ) (a : List ℕ) where
  pub gains_no : k < bands → at + bands ≤ length a → valid_gain m (get_or a (at + k) 0) ≡ false → valid_gains m (window at k a) ≡ false
  unfolding valid_gains
  gains_no h r e = ap (valid_gains m) (window_step at k a h r) ∙ ap (λ (b : Bool). b && valid_gains (m / 2) (window at (k + 1) a)) e

  pub gains_yes : k < bands → at + bands ≤ length a → valid_gain m (get_or a (at + k) 0) ≡ true → valid_gains m (window at k a) ≡ valid_gains (m / 2) (window at (k + 1) a)
  unfolding valid_gains
  gains_yes h r e = ap (valid_gains m) (window_step at k a h r) ∙ ap (λ (b : Bool). b && valid_gains (m / 2) (window at (k + 1) a)) e

  pub gains_all : bands ≤ k → valid_gains m (window at k a) ≡ true
  unfolding valid_gains
  gains_all h = ap (valid_gains m) (window_done at k a h)

-- ---- a tap's words where they stand in an area

pub range_at : (images at : ℕ) (a : List ℕ)
    → in_range images (stored_tap (drop at a)) ≡ (leb 1 (get_or a at 0) && (leb (get_or a at 0) most_order && (leb 1 (get_or a (at + 1) 0) && leb (get_or a (at + 1) 0) images)))
unfolding stored_tap
range_at images at a = simp (get_or-drop, add-zero)

pub floats_at : (m at : ℕ) (a : List ℕ)
    → valid_floats_by m (stored_tap (drop at a)) ≡ (finite_bits (get_or a (at + 2) 0) && (finite_bits (get_or a (at + 3) 0) && (finite_bits (get_or a (at + 4) 0) && (positive_bits (get_or a (at + 5) 0) && valid_gains m (take bands (drop (at + fixed_words) a))))))
unfolding stored_tap
floats_at m at a = simp (get_or-drop, drop-drop)

pub floats_by : (m at : ℕ) (a : List ℕ) → m ≡ bits_of_gains (take bands (drop (at + fixed_words) a)) → valid_floats_by m (stored_tap (drop at a)) ≡ valid_floats (stored_tap (drop at a))
unfolding stored_tap
floats_by m at a e = ap (λ (b : ℕ). valid_floats_by b (stored_tap (drop at a))) (e ∙ ap (λ (l : List ℕ). bits_of_gains (take bands l)) (sym (drop-drop fixed_words at a)))

-- ---- numbers

module _ (n i : ℕ) (a : List ℕ) (h : i < n) where
  pub numbers_step : map number_of (taps_from n i a) ≡ get_or a (i * tap_words + 1) 0 ∷ map number_of (taps_from n (i + 1) a)
  unfolding stored_tap
  numbers_step = ap (map number_of) (from_step n i a h) ∙ ap (λ (k : ℕ). k ∷ map number_of (taps_from n (i + 1) a)) (get_or-drop (i * tap_words) a 1 0)

pub numbers_done : (n i : ℕ) (a : List ℕ) → n ≤ i → map number_of (taps_from n i a) ≡ []
numbers_done n i a h = ap (map number_of) (from_done n i a h)

pub bits_step : (at k : ℕ) (a : List ℕ) → 0 < k → k ≤ bands → at + bands ≤ length a
    → bits_of_gains (window at (k - 1) a) ≡ cond (zero_bits (get_or a (at + (k - 1)) 0)) 0 1 + 2 * bits_of_gains (window at k a)
unfolding bits_of_gains
bits_step at k a h l r =
    let e : k - 1 + 1 ≡ k = omega arith in
    ap bits_of_gains (window_step at (k - 1) a (omega arith) r)
    ∙ ap (λ (j : ℕ). cond (zero_bits (get_or a (at + (k - 1)) 0)) 0 1 + 2 * bits_of_gains (window at j a)) e

pub window_zero : (at k : ℕ) (a : List ℕ) → k ≤ 0 → window at k a ≡ take bands (drop at a)
window_zero at k a h = let e : k ≡ 0 = omega arith in ap (λ (j : ℕ). window at j a) e

-- a tap's words where they stand
abbrev pub tap_at : ℕ → ℕ → List ℕ → Tap
tap_at m at a = record {
  bits = m;
  order = get_or a at 0;
  number = get_or a (at + 1) 0;
  x = get_or a (at + 2) 0;
  y = get_or a (at + 3) 0;
  z = get_or a (at + 4) 0;
  delay = get_or a (at + 5) 0;
  gains = take bands (drop (at + fixed_words) a);
}

pub tap_at_lem : (m at : ℕ) (a : List ℕ) → m ≡ bits_of_gains (take bands (drop (at + fixed_words) a)) → tap_at m at a ≡ stored_tap (drop at a)
unfolding stored_tap
tap_at_lem m at a e =
    let z : get_or a at 0 ≡ get_or (drop at a) 0 0 = sym (get_or-drop at a 0 0 ∙ ap (λ (k : ℕ). get_or a k 0) (add-zero at)) in
    λ i. record {
      bits = (e ∙ ap (λ (l : List ℕ). bits_of_gains (take bands l)) (sym (drop-drop fixed_words at a))) i;
      order = z i;
      number = sym (get_or-drop at a 1 0) i;
      x = sym (get_or-drop at a 2 0) i;
      y = sym (get_or-drop at a 3 0) i;
      z = sym (get_or-drop at a 4 0) i;
      delay = sym (get_or-drop at a 5 0) i;
      gains = take bands (sym (drop-drop fixed_words at a) i);
    }

-- sound taps have finite gains
gains_finite : (m : ℕ) (gs : List ℕ) → valid_gains m gs ≡ true → all finite_bits gs ≡ true
unfolding valid_gains all
gains_finite m [] e = refl
gains_finite m (g ∷ gs) e =
    let p = and_both (valid_gain m g) (valid_gains (m / 2) gs) e in
    let f = and_both (finite_bits g) (not (eqb (m % 2) 1) || positive_bits g) p.0 in
    rw f.0 (gains_finite (m / 2) gs p.1)

tap_finite : (t : Tap) → valid_floats t ≡ true → finite_gains t ≡ true
tap_finite t e =
    let a = and_both (finite_bits t.x) _ e in
    let b = and_both (finite_bits t.y) _ a.1 in
    let c = and_both (finite_bits t.z) _ b.1 in
    let d = and_both (positive_bits t.delay) _ c.1 in
    gains_finite t.bits t.gains d.1

pub valid_finite : (ts : List Tap) → all valid_floats ts ≡ true → all finite_gains ts ≡ true
unfolding all
valid_finite [] e = refl
valid_finite (t ∷ ts) e =
    let p = and_both (valid_floats t) (all valid_floats ts) e in
    rw (tap_finite t p.0) (valid_finite ts p.1)

-- a placed tap's order is small
pub order_fits : (images n i : ℕ) (a : List ℕ) → i < n → all (in_range images) (taps_from n i a) ≡ true → (get_or a (i * tap_words) 0 < 256) × (all (in_range images) (taps_from n (i + 1) a) ≡ true)
unfolding all
order_fits images n i a h e =
    let t : Tap = stored_tap (drop (i * tap_words) a) in
    let p = and_both (in_range images t) (all (in_range images) (taps_from n (i + 1) a)) (sym (ap (all (in_range images)) (from_step n i a h)) ∙ e) in
    let q = and_both (leb 1 (get_or a (i * tap_words) 0)) _ (sym (range_at images (i * tap_words) a) ∙ p.0) in
    let r = and_both (leb (get_or a (i * tap_words) 0) most_order) _ q.1 in
    let l = leb-true (get_or a (i * tap_words) 0) most_order r.0 in
    (omega arith, p.1)
