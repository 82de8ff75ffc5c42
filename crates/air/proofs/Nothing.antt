-- What the code cuts off leaves nothing: steps past 3,200, and millimetres past the longest path that it counts.
use Rattle.std.proofs.Common.{◌≡◌, ℕ, zero, suc, ◌*◌, ◌/◌, ◌%◌, ◌^◌, ◌<◌, ◌≤◌, min, Bool, T, eqb, leb, List, [], ◌∷◌, get_or, pos, sym, ap, ◌∙◌, le_trans, lt_of_lt_of_le, lt_of_le_of_lt, mod-lt, zero-lt-suc, mul-le-mul, zero-mul, div-le_self, arith, lit<, lit≤, eqb→eq, leb→le}
use native.Mathlib.Nat.{pow-le-pow_right, div-eq_of_lt}
use native.Mathlib.Decide.{dec_le}
use Rattle.air.specs.Table.{factor_table}
use lib.Ieee.{binary32, div, of_int, of_bits}
use Rattle.air.specs.declared.Air.{Air}
use Rattle.air.specs.Air.{steps_in, steps_of, factor_of_steps, band_of, bands_of}
use Rattle.air.specs.Kept.{most_millimetres, most_product, most_steps}
use Rattle.air.proofs.Every.{at, every}

-- ---- the table's entries are at most 2 ^ 24

abbrev small : ℕ → ℕ → Bool
small s k = leb k (2 ^ 24)

all_small : T (every small 0 factor_table)
unfolding factor_table
all_small = tt

entry_most : (s : ℕ) → get_or factor_table (s % 400) 0 ≤ 2 ^ 24
unfolding factor_table
entry_most s = leb→le (get_or factor_table (s % 400) 0) (2 ^ 24) (at small factor_table all_small (s % 400) (mod-lt s (zero-lt-suc 399)))

pub factor_most : (s : ℕ) → factor_of_steps s ≤ 2 ^ 24
unfolding factor_of_steps
factor_most s = le_trans (div-le_self (get_or factor_table (s % 400) 0) (10 ^ (s / 400))) (entry_most s)

-- ---- nothing is left from 3,200 steps on

pub none_left : (s : ℕ) → most_steps ≤ s → factor_of_steps s ≡ 0
unfolding factor_of_steps
none_left s h =
    let far : 8 ≤ s / 400 = omega arith in
    div-eq_of_lt (lt_of_le_of_lt (entry_most s) (lt_of_lt_of_le (lit< tt) (pow-le-pow_right (zero-lt-suc 9) far)))

pub cut_steps : (s : ℕ) → factor_of_steps (min s most_steps) ≡ factor_of_steps s
cut_steps s = by (dec_le s most_steps)
  where
    by : Dec (s ≤ most_steps) → factor_of_steps (min s most_steps) ≡ factor_of_steps s
    by (yes h) = ap factor_of_steps (let e : min s most_steps ≡ s = omega arith in e)
    by (no h) =
        ap factor_of_steps (let e : min s most_steps ≡ most_steps = omega arith in e)
        ∙ none_left most_steps (let e : most_steps ≤ most_steps = omega arith in e)
        ∙ sym (none_left s (let e : most_steps ≤ s = omega arith in e))

-- ---- products

pub product_small : (c n : ℕ) → c < 16777216 → n ≤ most_millimetres → c * n ≤ most_product
product_small c n h k = le_trans (mul-le-mul (let e : c ≤ 16777216 = omega arith in e) k) (lit≤ tt)

pub product_short : (c n : ℕ) → c < 2 ^ 32 → n < 16384 → c * n ≤ most_product
product_short c n h k = le_trans (mul-le-mul (let e : c ≤ 4294967296 = omega arith in e) (let e : n ≤ 16384 = omega arith in e)) (lit≤ tt)

pub product_far : (c n : ℕ) → 16777216 ≤ c → 16384 ≤ n → most_steps ≤ steps_of c n
unfolding steps_in
product_far c n h k =
    let p : 16777216 * 16384 ≤ c * n = mul-le-mul h k in
    omega arith

-- ---- millimetres

far_steps : (c n : ℕ) → 1 ≤ c → most_millimetres ≤ n → most_steps ≤ steps_of c n
unfolding steps_in
far_steps c n h k =
    let p : 1 * most_millimetres ≤ c * n = mul-le-mul h k in
    omega arith

pub cut_millimetres : (c n : ℕ) → factor_of_steps (steps_of c (min n most_millimetres)) ≡ factor_of_steps (steps_of c n)
cut_millimetres zero n = ap (λ (p : ℕ). factor_of_steps (steps_in p)) (zero-mul (min n most_millimetres) ∙ sym (zero-mul n))
cut_millimetres (suc c) n = by (dec_le n most_millimetres)
  where
    by : Dec (n ≤ most_millimetres) → factor_of_steps (steps_of (suc c) (min n most_millimetres)) ≡ factor_of_steps (steps_of (suc c) n)
    by (yes h) = ap (λ (k : ℕ). factor_of_steps (steps_of (suc c) k)) (let e : min n most_millimetres ≡ n = omega arith in e)
    by (no h) =
        ap (λ (k : ℕ). factor_of_steps (steps_of (suc c) k)) (let e : min n most_millimetres ≡ most_millimetres = omega arith in e)
        ∙ none_left (steps_of (suc c) most_millimetres) (far_steps (suc c) most_millimetres (let e : 1 ≤ suc c = omega arith in e) (let e : most_millimetres ≤ most_millimetres = omega arith in e))
        ∙ sym (none_left (steps_of (suc c) n) (far_steps (suc c) n (let e : 1 ≤ suc c = omega arith in e) (let e : most_millimetres ≤ n = omega arith in e)))

pub cut_band : (c n : ℕ) → band_of c (min n most_millimetres) ≡ band_of c n
unfolding band_of
cut_band c n = ap (λ (k : ℕ). div binary32 (of_int binary32 (pos k)) (of_bits binary32 0x4b80_0000)) (cut_millimetres c n)

pub cut_bands : (a : Air) (n : ℕ) → bands_of a (min n most_millimetres) ≡ bands_of a n
unfolding bands_of
cut_bands a n =
    rw (
      cut_band a.a0 n,
      cut_band a.a1 n,
      cut_band a.a2 n,
      cut_band a.a3 n,
      cut_band a.a4 n,
      cut_band a.a5 n,
      cut_band a.a6 n,
      cut_band a.a7 n,
    )

-- ---- the powers of ten that the code reads

abbrev tens : List ℕ
tens = 1 ∷ 10 ∷ 100 ∷ 1000 ∷ 10000 ∷ 100000 ∷ 1000000 ∷ 10000000 ∷ 100000000 ∷ []

abbrev power : ℕ → ℕ → Bool
power i k = eqb k (10 ^ i)

pub ten_at : (i : ℕ) → i < 9 → get_or tens i 0 ≡ 10 ^ i
ten_at i h = eqb→eq (get_or tens i 0) (10 ^ i) (at power tens tt i h)
