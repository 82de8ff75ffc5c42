-- The whole number nearest to an `f32`, by its pattern: a value a / c rounds to (2 a + c) / (2 c), and with the pattern's fields put in that is a
-- shift, a sum and a division by a literal.
--     mag_small, mag_mid, mag_big         the size of a pattern without sign: under a half, in range, held to 2 ^ 31
--     whole_pos, whole_cut, whole_neg     the whole number of a size and a sign
use mathlib.Core.Path.{◌≡◌, refl, sym, ap, ◌∙◌, subst}
use mathlib.Core.Bool.{Bool, true, false, not, true≢false, false≢true}
use Prim.Native.Nat.{ℕ, zero, suc, ◌+◌, ◌-◌, ◌*◌, ◌/◌, ◌%◌, ◌^◌, ◌<◌, ◌≤◌, min}
use native.Mathlib.Nat.{le_refl, le_trans, lt_of_lt_of_le, mul_assoc, mul_comm, mul_right_comm, add-mul, mul-le-mul_right, mul-le-mul_left, mul-div-mul_right, div-eq_of_lt, min-eq_left, min-eq_right, pow-suc}
use native.Mathlib.Omega.{arith}
use lib.Dec.{T, leb, ltb, le→leb, lt→ltb, T_not}
use lib.Pow.{pow-add, pow_pos, pow_mono, shl_lt, shl_exact}
use lib.IntN.{ℤ, pos, neg_ℤ}
use lib.Ieee.{Float, nan, inf, fin, up, down, binary32, of_fields, of_bits, is_nan, ne}
use lib.Ieee.Fits.{down_pos}
use lib.Ieee.Bits.{is_true, nan_bits_is, nan_bits_above}
use lib.Ieee.Compare.{differs_from_itself}
use lib.Ieee.Exact.{HasValue, odd_sign}
use Rattle.float.proofs.Numbers.{by_order}
use Rattle.float.proofs.Keys.{of_bits_is}
use Rattle.float.proofs.Patterns.{clear, at_zero, under_ones}
use Rattle.planes_faces.specs.Whole.{half_up, whole_of, place_of, size_of}

-- ---- by the value

half_up_value : (m : ℕ) (e : ℤ) (a c : ℕ) → 0 < c → m * up e * c ≡ a * down e → half_up m e ≡ (a * 2 + c) / (c * 2)
half_up_value m e a c p h =
    let d = down e in
    let u = m * up e in
    sym (mul-div-mul_right (u * 2 + d) (d * 2) p)
    ∙ ap (λ (z : ℕ). z / (d * 2 * c)) (add-mul (u * 2) d c ∙ ap (λ (z : ℕ). z + d * c) (mul_right_comm u 2 c ∙ ap (λ (z : ℕ). z * 2) h ∙ mul_right_comm a d 2) ∙ ap (λ (z : ℕ). a * 2 * d + z) (mul_comm d c) ∙ sym (add-mul (a * 2) c d))
    ∙ ap (λ (z : ℕ). (a * 2 + c) * d / z) (mul_right_comm d 2 c ∙ ap (λ (z : ℕ). z * 2) (mul_comm d c) ∙ mul_right_comm c d 2)
    ∙ mul-div-mul_right (a * 2 + c) (c * 2) (down_pos e)

pub mag_value : (x : Float) (s : Bool) (a c : ℕ) → 0 < c → HasValue x s a c → size_of x ≡ min ((a * 2 + c) / (c * 2)) 2147483648
unfolding size_of
mag_value nan s a c p h = absurd h
mag_value (inf t) s a c p h = absurd h
mag_value (fin t m e) s a c p h = ap (λ (z : ℕ). min z 2147483648) (half_up_value m e a c p h.1)

-- ---- by the fields

-- (m * 2 ^ k * P * .. ) with P a power of two: the common factor goes
scaled : (K P : ℕ) → 0 < P → (K * P + 8388608 * P) / (16777216 * P) ≡ (K + 8388608) / 16777216
scaled K P p = ap (λ (z : ℕ). z / (16777216 * P)) (sym (add-mul K 8388608 P)) ∙ mul-div-mul_right (K + 8388608) 16777216 p

-- with the exponent's field x + 1 = k + 126
normal_size : (m x k : ℕ) → suc x ≡ k + 126 → (m * 2 ^ x * 2 + 2 ^ 149) / (2 ^ 149 * 2) ≡ (m * 2 ^ k + 8388608) / 16777216
normal_size m x k h =
    let e : m * 2 ^ x * 2 ≡ m * 2 ^ k * 2 ^ 126 = mul_assoc m (2 ^ x) 2 ∙ ap (λ (z : ℕ). m * z) (sym (pow-suc 2 x) ∙ ap (λ (z : ℕ). 2 ^ z) h ∙ pow-add 2 k 126) ∙ sym (mul_assoc m (2 ^ k) (2 ^ 126)) in
    ap (λ (z : ℕ). (z + 2 ^ 149) / (2 ^ 149 * 2)) e ∙ scaled (m * 2 ^ k) (2 ^ 126) (pow_pos 126)

-- under a half
small_size : (a c : ℕ) → a * 2 < c → (a * 2 + c) / (c * 2) ≡ 0
small_size a c h = div-eq_of_lt (omega arith)

at_ones : (s : Bool) → of_fields binary32 s 255 0 ≡ inf s
unfolding of_fields
at_ones s = refl

value_zero : (s : Bool) (t : ℕ) → HasValue (of_fields binary32 s 0 t) s (t * 2 ^ 0) (2 ^ 149)
value_zero s t = subst (λ (y : Float). HasValue y s (t * 2 ^ 0) (2 ^ 149)) (sym (at_zero s t)) (odd_sign 24 s t 0 149)

value_more : (s : Bool) (t x : ℕ) → suc x < 255 → HasValue (of_fields binary32 s (suc x) t) s ((8388608 + t) * 2 ^ x) (2 ^ 149)
value_more s t x h = subst (λ (y : Float). HasValue y s ((8388608 + t) * 2 ^ x) (2 ^ 149)) (sym (under_ones s t x h)) (odd_sign 24 s (8388608 + t) x 149)

min_zero : min 0 2147483648 ≡ 0
min_zero = refl

-- under a half it is 0
pub mag_small : (s : Bool) (e t : ℕ) → t < 8388608 → e < 126 → size_of (of_fields binary32 s e t) ≡ 0
mag_small s zero t l h =
    mag_value (of_fields binary32 s 0 t) s (t * 2 ^ 0) (2 ^ 149) (pow_pos 149) (value_zero s t)
    ∙ ap (λ (z : ℕ). min z 2147483648) (small_size (t * 2 ^ 0) (2 ^ 149) (lt_of_lt_of_le (half_low t l) (pow_mono {i = 24} {j = 149} (omega arith))))
    ∙ min_zero
  where
    half_low : (t : ℕ) → t < 8388608 → t * 2 ^ 0 * 2 < 2 ^ 24
    half_low t l = omega arith
mag_small s (suc x) t l h =
    mag_value (of_fields binary32 s (suc x) t) s ((8388608 + t) * 2 ^ x) (2 ^ 149) (pow_pos 149) (value_more s t x (omega arith))
    ∙ ap (λ (z : ℕ). min z 2147483648) (small_size ((8388608 + t) * 2 ^ x) (2 ^ 149) (lt_of_lt_of_le (half_more (8388608 + t) x (omega arith)) (pow_mono {i = 24 + suc x} {j = 149} (omega arith))))
    ∙ min_zero
  where
    half_more : (m x : ℕ) → m < 2 ^ 24 → m * 2 ^ x * 2 < 2 ^ (24 + suc x)
    half_more m x g = subst (λ (z : ℕ). z < 2 ^ (24 + suc x)) (ap (λ (z : ℕ). m * z) (pow-suc 2 x) ∙ sym (mul_assoc m (2 ^ x) 2)) (shl_lt 24 (suc x) g)

size_le : (m k : ℕ) → m < 16777216 → k ≤ 31 → m * 2 ^ k ≤ 36028794871480320
size_le m k h g =
    le_trans (mul-le-mul_left m (pow_mono {i = k} {j = 31} g)) (le_trans (mul-le-mul_right (2 ^ 31) (le_of_suc_le_suc' m h)) (le_refl 36028794871480320))
  where
    le_of_suc_le_suc' : (m : ℕ) → m < 16777216 → m ≤ 16777215
    le_of_suc_le_suc' m h = omega arith

pub mid_fits : (m k : ℕ) → m < 16777216 → k ≤ 31 → (m * 2 ^ k + 8388608) / 16777216 ≤ 2147483648
mid_fits m k h g = let b = size_le m k h g in omega arith

pub mag_mid : (s : Bool) (e t k : ℕ) → t < 8388608 → e ≡ k + 126 → k ≤ 31 → size_of (of_fields binary32 s e t) ≡ ((8388608 + t) * 2 ^ k + 8388608) / 16777216
mag_mid s zero t k l h g = absurd (let z : ⊥ = omega arith in z)
mag_mid s (suc x) t k l h g =
    mag_value (of_fields binary32 s (suc x) t) s ((8388608 + t) * 2 ^ x) (2 ^ 149) (pow_pos 149) (value_more s t x (omega arith))
    ∙ ap (λ (z : ℕ). min z 2147483648) (normal_size (8388608 + t) x k h)
    ∙ min-eq_left (mid_fits (8388608 + t) k (omega arith) g)

big_size : (m k : ℕ) → 8388608 ≤ m → 32 ≤ k → 2147483648 ≤ (m * 2 ^ k + 8388608) / 16777216
big_size m k h g =
    let b : 8388608 * 2 ^ 32 ≤ m * 2 ^ k = le_trans (mul-le-mul_right (2 ^ 32) h) (mul-le-mul_left m (pow_mono {i = 32} {j = k} g)) in
    omega arith

at_inf : (s : Bool) → size_of (inf s) ≡ 2147483648
unfolding size_of
at_inf s = refl

pub mag_big : (s : Bool) (e t : ℕ) → t < 8388608 → 158 ≤ e → e * 8388608 + t ≤ 2139095040 → size_of (of_fields binary32 s e t) ≡ 2147483648
mag_big s zero t l h g = absurd (let z : ⊥ = omega arith in z)
mag_big s (suc x) t l h g =
    by_order 255 (suc x)
    (λ full. let e : suc x ≡ 255 = omega arith in let z : t ≡ 0 = omega arith in ap size_of (ap (λ (y : ℕ). of_fields binary32 s y t) e ∙ ap (of_fields binary32 s 255) z ∙ at_ones s) ∙ at_inf s)
    (λ less.
    let k = x - 125 in
    mag_value (of_fields binary32 s (suc x) t) s ((8388608 + t) * 2 ^ x) (2 ^ 149) (pow_pos 149) (value_more s t x less)
    ∙ ap (λ (z : ℕ). min z 2147483648) (normal_size (8388608 + t) x k (omega arith))
    ∙ min-eq_right (big_size (8388608 + t) k (omega arith) (omega arith)))

-- ---- the sign

-- x is no NaN and has the sign s
abbrev pub Signed : Bool → Float → Type 0
Signed s nan = ⊥
Signed s (inf t) = t ≡ s
Signed s (fin t m e) = t ≡ s

signed_value : (x : Float) (s : Bool) (a c : ℕ) → HasValue x s a c → Signed s x
signed_value nan s a c h = h
signed_value (inf t) s a c h = absurd h
signed_value (fin t m e) s a c h = h.0

pub signed_fields : (s : Bool) (e t : ℕ) → e * 8388608 + t ≤ 2139095040 → Signed s (of_fields binary32 s e t)
signed_fields s zero t g = signed_value (of_fields binary32 s 0 t) s (t * 2 ^ 0) (2 ^ 149) (value_zero s t)
signed_fields s (suc x) t g =
    by_order 255 (suc x)
    (λ full. let e : suc x ≡ 255 = omega arith in let z : t ≡ 0 = omega arith in subst (Signed s) (sym (ap (λ (y : ℕ). of_fields binary32 s y t) e ∙ ap (of_fields binary32 s 255) z ∙ at_ones s)) refl)
    (λ less. signed_value (of_fields binary32 s (suc x) t) s ((8388608 + t) * 2 ^ x) (2 ^ 149) (value_more s t x less))

place_of_neg : (k : ℕ) → place_of (neg_ℤ (pos k)) ≡ 2147483648 - k
place_of_neg zero = refl
place_of_neg (suc k) = omega arith

-- from the size: below zero, above it, and cut
pub whole_neg : (x : Float) → Signed true x → place_of (whole_of x) ≡ 2147483648 - size_of x
unfolding whole_of size_of
whole_neg nan g = absurd g
whole_neg (inf true) g = refl
whole_neg (inf false) g = absurd (false≢true g)
whole_neg (fin true m e) g = place_of_neg (min (half_up m e) 2147483648)
whole_neg (fin false m e) g = absurd (false≢true g)

pub whole_pos : (x : Float) → Signed false x → (size_of x ≡ 2147483648 → ⊥) → place_of (whole_of x) ≡ 2147483648 + size_of x
unfolding whole_of size_of
whole_pos nan g d = absurd g
whole_pos (inf true) g d = absurd (true≢false g)
whole_pos (inf false) g d = absurd (d refl)
whole_pos (fin true m e) g d = absurd (true≢false g)
whole_pos (fin false m e) g d = go (half_up m e) d
  where
    go : (h : ℕ) → (min h 2147483648 ≡ 2147483648 → ⊥) → min h 2147483647 + 2147483648 ≡ 2147483648 + min h 2147483648
    go h n =
        by_order h 2147483647 (λ l. rw (min-eq_left l, min-eq_left {n = h} {m = 2147483648} (omega arith)) (omega arith))
        (λ l. absurd (n (min-eq_right {n = 2147483648} {m = h} l)))

pub whole_cut : (x : Float) → Signed false x → size_of x ≡ 2147483648 → place_of (whole_of x) ≡ 4294967295
unfolding whole_of size_of
whole_cut nan g e = absurd g
whole_cut (inf true) g e = absurd (true≢false g)
whole_cut (inf false) g e = refl
whole_cut (fin true m e') g e = absurd (true≢false g)
whole_cut (fin false m e') g e = go (half_up m e') e
  where
    go : (h : ℕ) → min h 2147483648 ≡ 2147483648 → min h 2147483647 + 2147483648 ≡ 4294967295
    go h n =
        by_order h 2147483647 (λ l. let b = min-eq_left {n = h} {m = 2147483648} (omega arith) in absurd (let z : ⊥ = omega arith in z))
        (λ l. rw (min-eq_right {n = 2147483647} {m = h} (omega arith)))

-- ---- the pattern of x

pub minus : (i : ℕ) → 2147483648 ≤ i → i < 4294967296 → of_bits binary32 i ≡ of_fields binary32 true ((i - 2147483648) / 8388608) ((i - 2147483648) % 8388608)
minus i l u =
    let a : i % 2147483648 ≡ i - 2147483648 = omega arith in
    let b : i % 8388608 ≡ (i - 2147483648) % 8388608 = omega arith in
    of_bits_is i
    ∙ ap (λ (s : Bool). of_fields binary32 s (i % 2147483648 / 8388608) (i % 8388608)) (is_true (leb 2147483648 i) (le→leb 2147483648 i l))
    ∙ ap (λ (x : ℕ). of_fields binary32 true (x / 8388608) (i % 8388608)) a ∙ ap (of_fields binary32 true ((i - 2147483648) / 8388608)) b

pub nan_whole : (x : Float) → ne x x ≡ true → 2147483648 ≡ place_of (whole_of x)
unfolding whole_of
nan_whole x h = let e = differs_from_itself x (subst T (sym h) tt) in subst (λ (y : Float). 2147483648 ≡ place_of (whole_of y)) (sym e) refl

-- a number's pattern is at most an infinity's
pub number_low : (x : Float) (i : ℕ) → of_bits binary32 i ≡ x → T (not (is_nan x)) → i % 2147483648 ≤ 2139095040
number_low x i e n = by_order (i % 2147483648) 2139095040 (λ h. h) (λ h. absurd (T_not (is_nan x) n (subst T (above h ∙ ap is_nan e) tt)))
  where
    above : 2139095040 < i % 2147483648 → true ≡ is_nan (of_bits binary32 i)
    above h = sym (is_true (ltb 2139095040 (i % 2147483648)) (lt→ltb 2139095040 (i % 2147483648) h)) ∙ sym (nan_bits_above binary32 i) ∙ nan_bits_is binary32 i

-- ---- for the code

pub moved_is : (m k : ℕ) → m < 16777216 → k ≤ 31 → m * 2 ^ k % 18446744073709551616 ≡ m * 2 ^ k
moved_is m k h g = shl_exact {a = m} 24 k 64 h (omega arith)

pub moved_le : (m k : ℕ) → m < 16777216 → k ≤ 31 → m * 2 ^ k % 18446744073709551616 ≤ 36028794871480320
moved_le m k h g = rw (moved_is m k h g) (size_le m k h g)

-- x by a pattern without sign, and with it
pub at_plus : (x : Float) (i m : ℕ) → of_bits binary32 i ≡ x → i ≤ 2139095040 → ((s : Bool) → size_of (of_fields binary32 s (i / 8388608) (i % 8388608)) ≡ m) → Signed false x × (size_of x ≡ m)
at_plus x i m e v f =
    (subst (Signed false) (sym (clear i (omega arith)) ∙ e) (signed_fields false (i / 8388608) (i % 8388608) (omega arith)), ap size_of (sym e ∙ clear i (omega arith)) ∙ f false)

pub at_minus : (x : Float) (i m : ℕ) → of_bits binary32 i ≡ x → 2147483648 ≤ i → i < 4294967296 → i - 2147483648 ≤ 2139095040
    → ((s : Bool) → size_of (of_fields binary32 s ((i - 2147483648) / 8388608) ((i - 2147483648) % 8388608)) ≡ m) → Signed true x × (size_of x ≡ m)
at_minus x i m e l u v f =
    (subst (Signed true) (sym (minus i l u) ∙ e) (signed_fields true ((i - 2147483648) / 8388608) ((i - 2147483648) % 8388608) (omega arith)), ap size_of (sym e ∙ minus i l u) ∙ f true)
