-- A product of an f32 and a whole number below 2 ^ 21 in binary64 is exact, so its whole part is that of the exact product.
use Rattle.std.proofs.Common.{◌≡◌, ℕ, suc, ◌+◌, ◌-◌, ◌*◌, ◌/◌, ◌%◌, ◌^◌, ◌<◌, ◌≤◌, min, Bool, false, cond, not, ◌&&◌, T, eqb, ltb, leb, ℤ, pos, negsuc, sym, ap, ◌∙◌, subst, lt_of_lt_of_le, lt_of_le_of_lt, le_of_lt, mul_assoc, mul_comm, lt_of_mul-lt-mul_right, mul-le-mul_left, mul-lt-mul_of_pos_right, mul-pos, lt_of_not-le, mul-one, mul_right_comm, not-le_of_lt, arith, lit≤, ltb→lt, leb→le, pow_pos, pow-add}
use mathlib.Core.Bool.{beq}
use native.Mathlib.Nat.{div-div-eq-div-mul, add-div_right}
use native.Mathlib.Decide.{dec_le}
use lib.Pow.{pow-lt}
use lib.Ieee.{Float, fin, inf, nan, binary32, binary64, up, down, round, mul, fits, to_unsigned}
use lib.Ieee.Fits.{and_l, and_r, down_pos}
use lib.Ieee.Exact.{HasValue, round_exact}
use lib.Ieee.Scale.{round_same}
use lib.Ieee.Nearest.{div_same}

-- ---- what a value of binary32 is

record Parts (m : ℕ) (e : ℤ) : Type 0 where
  digits : m < 2 ^ 24
  step : down e ≤ 2 ^ 149
  size : m * up e < 2 ^ 128 * down e

parts : (m : ℕ) (e : ℤ) → T (fits binary32 (fin false (suc m) e)) → Parts (suc m) e
unfolding fits
parts m e h =
    let odd = eqb (suc m % 2) 1 in
    let few = ltb (suc m) (2 ^ 24) in
    let fine = leb (down e) (2 ^ 149) in
    let under = ltb (suc m * up e) (2 ^ 128 * down e) in
    record {
      digits = ltb→lt (suc m) (2 ^ 24) (and_r odd few (and_l (odd && few) fine (and_l (odd && few && fine) under h)));
      step = leb→le (down e) (2 ^ 149) (and_r (odd && few) fine (and_l (odd && few && fine) under h));
      size = ltb→lt (suc m * up e) (2 ^ 128 * down e) (and_r (odd && few && fine) under h);
    }

-- 2 ^ i is at most 2 ^ j only where i is at most j
exponent : (i j : ℕ) → 2 ^ i ≤ 2 ^ j → i ≤ j
exponent i j h = by (dec_le i j)
  where
    by : Dec (i ≤ j) → i ≤ j
    by (yes k) = k
    by (no k) = absurd (not-le_of_lt (pow-lt (lt_of_not-le k)) h)

-- ---- the product

-- m * 2 ^ e times n is q * 2 ^ j of binary64's smallest value
scaled : (m : ℕ) (e : ℤ) (n : ℕ) → Parts m e → (j : ℕ) × (m * up e * n * 2 ^ 1074 ≡ m * n * 2 ^ j * down e)
scaled m (pos k) n p = (k + 1074, mul_right_comm (m * 2 ^ k) n (2 ^ 1074) ∙ ap (λ (x : ℕ). x * n) (mul_assoc m (2 ^ k) (2 ^ 1074) ∙ ap (λ (x : ℕ). m * x) (sym (pow-add 2 k 1074))) ∙ mul_right_comm m (2 ^ (k + 1074)) n ∙ sym (mul-one (m * n * 2 ^ (k + 1074))))
scaled m (negsuc k) n p =
    let l : suc k ≤ 149 = exponent (suc k) 149 p.step in
    let w : 1074 ≡ (1074 - suc k) + suc k = omega arith in (
      1074 - suc k,
      ap (λ (x : ℕ). x * n * 2 ^ 1074) (mul-one m)
          ∙ ap (λ (x : ℕ). m * n * 2 ^ x) w
          ∙ ap (λ (x : ℕ). m * n * x) (pow-add 2 (1074 - suc k) (suc k))
          ∙ sym (mul_assoc (m * n) (2 ^ (1074 - suc k)) (2 ^ suc k)),
    )

-- it is far below binary64's largest
under : (a b c d : ℕ) → a < b → c < d → 0 < d → a * c < b * d
under a b c d h k p = lt_of_le_of_lt (mul-le-mul_left a (le_of_lt k)) (mul-lt-mul_of_pos_right h p)

small : (m : ℕ) (e : ℤ) (n : ℕ) → Parts m e → n < 2 ^ 21 → (j : ℕ) → m * up e * n * 2 ^ 1074 ≡ m * n * 2 ^ j * down e → m * n * 2 ^ j < 2 ^ 2098
small m e n p h j q =
    let a : m * up e * n < 2 ^ 128 * down e * 2 ^ 21 = under (m * up e) (2 ^ 128 * down e) n (2 ^ 21) p.size h (pow_pos 21) in
    let b : m * up e * n * 2 ^ 1074 < 2 ^ 128 * down e * 2 ^ 21 * 2 ^ 1074 = mul-lt-mul_of_pos_right a (pow_pos 1074) in
    let c : 2 ^ 128 * down e * 2 ^ 21 * 2 ^ 1074 ≡ 2 ^ 1223 * down e =
    ap (λ (x : ℕ). x * 2 ^ 1074) (mul_right_comm (2 ^ 128) (down e) (2 ^ 21)) ∙ mul_right_comm (2 ^ 128 * 2 ^ 21) (down e) (2 ^ 1074) in
    let d : m * n * 2 ^ j * down e < 2 ^ 1223 * down e = subst (λ (x : ℕ). x < 2 ^ 1223 * down e) q (subst (λ (x : ℕ). m * up e * n * 2 ^ 1074 < x) c b) in
    lt_of_lt_of_le (lt_of_mul-lt-mul_right (down e) d) (lit≤ tt)

product_exact : (m : ℕ) (e : ℤ) (n : ℕ) → Parts m e → n < 2 ^ 21 → HasValue (round binary64 false (m * up e * n) (down e)) false (m * up e * n) (down e)
product_exact m e n p h =
    let r = scaled m e n p in
    round_exact binary64 false (m * up e * n) (down e) (m * n) r.0 (down_pos e)
    (lt_of_lt_of_le (under m (2 ^ 24) n (2 ^ 21) p.digits h (pow_pos 21)) (lit≤ tt))
    (small m e n p h r.0 r.1) r.1

-- the product of the two floats is that rounding
product_is : (m : ℕ) (e : ℤ) (n : ℕ) (y : Float) → HasValue y false n 1 → mul binary64 (fin false m e) y ≡ round binary64 false (m * up e * n) (down e)
unfolding mul
product_is m e n nan v = absurd v
product_is m e n (inf s) v = absurd v
product_is m e n (fin t a d) v =
    let same : a * up d ≡ n * down d = sym (mul-one (a * up d)) ∙ v.1 in
    ap (λ (s : Bool). round binary64 (not (beq false s)) (m * up e * (a * up d)) (down e * down d)) v.0
    ∙ round_same binary64 false (m * up e * (a * up d)) (down e * down d) (m * up e * n) (down e) (mul-pos (down_pos e) (down_pos d)) (down_pos e)
    (ap (λ (x : ℕ). m * up e * x * down e) same ∙ ap (λ (x : ℕ). x * down e) (sym (mul_assoc (m * up e) n (down d))) ∙ mul_assoc (m * up e * n) (down d) (down e) ∙ ap (λ (x : ℕ). m * up e * n * x) (mul_comm (down d) (down e)))

cut : (x : Float) (a c : ℕ) → 0 < c → HasValue x false a c → to_unsigned 64 x ≡ min (a / c) (2 ^ 64 - 1)
unfolding to_unsigned
cut nan a c p v = absurd v
cut (inf s) a c p v = absurd v
cut (fin t m e) a c p v =
    ap (λ (s : Bool). cond s 0 (min (m * up e / down e) (2 ^ 64 - 1))) v.0
    ∙ ap (λ (x : ℕ). min x (2 ^ 64 - 1)) (div_same (m * up e) (down e) a c (down_pos e) p v.1)

-- the product of a float and a whole number below 2 ^ 21
pub product_value :
    (m : ℕ) (e : ℤ) (n : ℕ) → T (fits binary32 (fin false (suc m) e)) → n < 2 ^ 21 → (y : Float) → HasValue y false n 1 →
    HasValue (mul binary64 (fin false (suc m) e) y) false (suc m * up e * n) (down e)
product_value m e n f h y v =
    subst (λ (x : Float). HasValue x false (suc m * up e * n) (down e)) (sym (product_is (suc m) e n y v)) (product_exact (suc m) e n (parts m e f) h)

-- its whole part
pub whole_part : (x : Float) (a c : ℕ) → 0 < c → HasValue x false a c → to_unsigned 64 x ≡ min (a / c) (2 ^ 64 - 1)
whole_part = cut

-- "halves up" from one whole part: to the nearest of a / c is half of one more than twice of it
pub halves_up : (a c : ℕ) → 0 < c → (2 * a + c) / (2 * c) ≡ (2 * a / c + 1) / 2
halves_up a c p =
    sym (div_div_eq_div_mul' (2 * a + c) c 2) ∙ ap (λ (x : ℕ). x / 2) (add-div_right (2 * a) p)
  where
    div_div_eq_div_mul' : (x y z : ℕ) → x / y / z ≡ x / (z * y)
    div_div_eq_div_mul' x y z = div-div-eq-div-mul x y z ∙ ap (λ (w : ℕ). x / w) (mul_comm y z)
