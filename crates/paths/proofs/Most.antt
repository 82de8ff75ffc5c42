-- Where a float is a number from 0 to p / q, or NaN: what arithmetic keeps so. A rounded number is at most p / q where the number is and p / q is a
-- value of the format (`Exact`).
use mathlib.Core.Path.{◌≡◌, refl, sym, ap, subst, ◌∙◌}
use mathlib.Core.Bool.{Bool, true, false, not, cond, ◌&&◌, true≢false}
use Prim.Native.Nat.{ℕ, zero, suc, ◌+◌, ◌-◌, ◌*◌, ◌/◌, ◌^◌, ◌<◌, ◌≤◌}
use native.Mathlib.Nat.{add-mul, mul-pos, zero-lt-suc, zero-mul, mul-zero, mul_comm, mul_assoc, mul-one, mul_right_comm, mul-mul-mul_comm, mul-le-mul, le_trans, le_of_eq, le_refl, le_of_lt, lt_of_le_of_lt, lt_of_lt_of_le, mul-lt-mul_of_pos_right}
use native.Mathlib.Omega.{arith}
use borrow.Author.Tests.{le-ltb, eq-eqb}
use lib.Dec.{T, ltb, eqb, lt→ltb, nltb→le}
use lib.Pow.{pow_pos, pow-add, pow-lt, shl_lt}
use lib.IntN.{ℤ, pos}
use lib.Ieee.{Float, nan, inf, fin, binary32, up, down, unlike, round, sum, neg, add, sub, mul, div, lt, le, eq, is_nan, of_bits}
use lib.Ieee.Fits.{up_pos, down_pos}
use lib.Ieee.Exact.{HasValue, round_exact}
use lib.Ieee.Order.{round_mono}
use lib.Ieee.Nearest.{div_mono}
use lib.Ieee.Positive.{num, den, den_pos, positive_of_value, value→cross, le→cross, through}
use Rattle.laws.proofs.Numbers.{no_part}
use Rattle.float.specs.Literals.{zero32, one32}
use Rattle.float.specs.Compare.{clamp_of, is_finite}
use Rattle.float.specs.Sqrt.{isqrt, root_of, sqrt_of}
use Rattle.guesses.proofs.Products.{mul_lt_pow}
use Rattle.float.proofs.Squares.{square_lt_back}
use Rattle.float.proofs.Rounds.{isqrt_is}
use Rattle.paths.specs.Numbers.{is_number}
use Rattle.paths.proofs.Signs.{NotNegative, round_false, clamp_not_negative}
use Rattle.paths.proofs.Levels.{clamp_below}

abbrev pub Most : ℕ → ℕ → Float → Type 0
Most p q nan = Unit {0}
Most p q (inf s) = ⊥
Most p q (fin true zero e) = Unit {0}
Most p q (fin true (suc m) e) = ⊥
Most p q (fin false m e) = m * up e * q ≤ p * down e

-- a value a / c that is at most p / q
pub value_most : (x : Float) (a c p q : ℕ) → 0 < c → HasValue x false a c → a * q ≤ p * c → Most p q x
value_most nan a c p q hc v h = tt
value_most (inf s) a c p q hc v h = absurd v
value_most (fin true m e) a c p q hc v h = absurd (true≢false v.0)
value_most (fin false m e) a c p q hc v h = through (m * up e) a p (down e) c q hc (le_of_eq v.1) h

-- p / q is a value of the format
abbrev pub Exact : ℕ → ℕ → Type 0
Exact p q = HasValue (round binary32 false p q) false p q

-- ---- a rounded number

pub none : (e : ℤ) (p q : ℕ) → 0 * up e * q ≤ p * down e
none e p q = let a = zero-mul (up e) in let b = zero-mul q in rw (a, b) (omega arith)

le_most : (x y : Float) (p q : ℕ) → 0 < p → NotNegative x → HasValue y false p q → T (le x y) → Most p q x
unfolding le lt eq
le_most nan y p q hp n v l = tt
le_most (inf true) y p q hp n v l = absurd n
le_most (inf false) nan p q hp n v l = absurd v
le_most (inf false) (inf t) p q hp n v l = absurd v
le_most (inf false) (fin t k d) p q hp n v l = absurd l
le_most (fin true zero e) y p q hp n v l = tt
le_most (fin true (suc m) e) y p q hp n v l = absurd n
le_most (fin false zero e) y p q hp n v l = none e p q
le_most (fin false (suc m) e) y p q hp n v l =
    through (suc m * up e) (num y) p (down e) (den y) q (den_pos y)
    (le→cross (fin false (suc m) e) y (lt→ltb 0 (suc m) (omega arith)) (positive_of_value y p q v hp) l) (le_of_eq (value→cross y p q v))

pub most_round : (a c p q : ℕ) → 0 < c → 0 < q → 0 < p → Exact p q → a * q ≤ p * c → Most p q (round binary32 false a c)
most_round a c p q hc hq hp e h =
    le_most (round binary32 false a c) (round binary32 false p q) p q hp (round_false binary32 a c) e (round_mono binary32 a c p q hc hq h)

zero_most : (x : Float) (s : Bool) (c p q : ℕ) → 0 < c → HasValue x s 0 c → Most p q x
zero_most nan s c p q hc v = tt
zero_most (inf t) s c p q hc v = v
zero_most (fin true zero e) s c p q hc v = tt
zero_most (fin true (suc m) e) s c p q hc v =
    let k : 0 < suc m * up e = mul-pos (zero-lt-suc m) (up_pos e) in
    let z = no_part (suc m * up e) c hc (v.1 ∙ zero-mul (down e)) in
    let no : ⊥ = omega arith in
    no
zero_most (fin false m e) s c p q hc v =
    let z = no_part (m * up e) c hc (v.1 ∙ zero-mul (down e)) in
    let b = zero-mul q in
    rw (z, b) (omega arith)

pub round_zero : (s : Bool) (a c p q : ℕ) → a ≡ 0 → 0 < c → Most p q (round binary32 s a c)
round_zero s a c p q e some =
    rw e
    (zero_most (round binary32 s 0 c) s c p q some
    (round_exact binary32 s 0 c 0 0 some (pow_pos 24) (pow_pos 277) (rw (zero-mul (2 ^ 149), zero-mul c))))

pub none_of : (a b : ℕ) → 0 * a * b ≡ 0
none_of a b = rw (zero-mul a, zero-mul b)

-- ---- products

-- of numbers up to p / q and p' / q', where their product is at most P / Q
module _ (p q p' q' P Q : ℕ) (hq : 0 < q * q') (h_p : 0 < P) (h_q : 0 < Q) (exact : Exact P Q) (within : p * p' * Q ≤ P * (q * q')) where
  product_cross : (a de b dd : ℕ) → a * q ≤ p * de → b * q' ≤ p' * dd → a * b * Q ≤ P * (de * dd)
  product_cross a de b dd h g =
      through (a * b) (p * p') P (de * dd) (q * q') Q hq
      (le_trans (le_of_eq (mul-mul-mul_comm a b q q')) (le_trans (mul-le-mul h g) (le_of_eq (mul-mul-mul_comm p de p' dd)))) within

  pub mul_most : (x y : Float) → Most p q x → Most p' q' y → Most P Q (mul binary32 x y)
  unfolding mul
  mul_most nan y h g = tt
  mul_most (inf s) y h g = absurd h
  mul_most (fin true (suc m) e) y h g = absurd h
  mul_most (fin true zero e) nan h g = tt
  mul_most (fin true zero e) (inf t) h g = absurd g
  mul_most (fin true zero e) (fin t n d) h g =
      round_zero (unlike true t) (0 * up e * (n * up d)) (down e * down d) P Q (none_of (up e) (n * up d)) (mul-pos (down_pos e) (down_pos d))
  mul_most (fin false m e) nan h g = tt
  mul_most (fin false m e) (inf t) h g = absurd g
  mul_most (fin false m e) (fin true (suc n) d) h g = absurd g
  mul_most (fin false m e) (fin true zero d) h g =
      round_zero (unlike false true) (m * up e * (0 * up d)) (down e * down d) P Q (rw (zero-mul (up d), mul-zero (m * up e))) (mul-pos (down_pos e) (down_pos d))
  mul_most (fin false m e) (fin false n d) h g =
      most_round (m * up e * (n * up d)) (down e * down d) P Q (mul-pos (down_pos e) (down_pos d)) h_q h_p exact
      (product_cross (m * up e) (down e) (n * up d) (down d) h g)

-- ---- sums

module _ (p p' q : ℕ) (hp : 0 < p + p') (hq : 0 < q) (exact : Exact (p + p') q) where
  part : (a q p de dd : ℕ) → a * q ≤ p * de → a * dd * q ≤ p * (de * dd)
  part a q p de dd h = le_trans (le_of_eq (mul_right_comm a dd q)) (le_trans (mul-le-mul h (le_refl dd)) (le_of_eq (mul_assoc p de dd)))

  sum_cross : (a de b dd : ℕ) → a * q ≤ p * de → b * q ≤ p' * dd → (a * dd + b * de) * q ≤ (p + p') * (de * dd)
  sum_cross a de b dd h g =
      let l = part a q p de dd h in
      let r = part b q p' dd de g in
      let t : p' * (dd * de) ≡ p' * (de * dd) = ap (λ (z : ℕ). p' * z) (mul_comm dd de) in
      rw (add-mul (a * dd) (b * de) q, add-mul p p' (de * dd)) (omega (arith, l, r, t))

  lesser : (a b c : ℕ) → b ≡ 0 → 0 < c → a * q ≤ (p + p') * c → Most (p + p') q (cond (ltb a b) (round binary32 true (b - a) c) (round binary32 (false && ltb b a) (a - b) c))
  lesser a b c e hc h =
      let l : b ≤ a = omega arith in
      let z : a - b ≡ a = omega arith in
      rw (le-ltb a b l, z) (most_round a c (p + p') q hc hq hp exact h)

  greater : (a b c : ℕ) → a ≡ 0 → 0 < c → b * q ≤ (p + p') * c → (t : Bool) → Most (p + p') q (cond t (round binary32 false (b - a) c) (round binary32 (true && ltb b a) (a - b) c))
  greater a b c e hc h true = let z : b - a ≡ b = omega arith in rw z (most_round b c (p + p') q hc hq hp exact h)
  greater a b c e hc h false =
      let l : a ≤ b = omega arith in
      let z : a - b ≡ 0 = omega arith in
      rw (le-ltb b a l) (round_zero false (a - b) c (p + p') q z hc)

  pub add_most : (x y : Float) → Most p q x → Most p' q y → Most (p + p') q (add binary32 x y)
  unfolding add sum
  add_most nan y h g = tt
  add_most (inf s) y h g = absurd h
  add_most (fin true (suc m) e) y h g = absurd h
  add_most (fin true zero e) nan h g = tt
  add_most (fin true zero e) (inf t) h g = absurd g
  add_most (fin true zero e) (fin true (suc n) d) h g = absurd g
  add_most (fin true zero e) (fin true zero d) h g =
      round_zero true (0 * up e * down d + 0 * up d * down e) (down e * down d) (p + p') q (rw (none_of (up e) (down d), none_of (up d) (down e))) (mul-pos (down_pos e) (down_pos d))
  add_most (fin true zero e) (fin false n d) h g =
      greater (0 * up e * down d) (n * up d * down e) (down e * down d) (none_of (up e) (down d)) (mul-pos (down_pos e) (down_pos d)) (right_part (n * up d) (down d) (down e) g) (ltb (0 * up e * down d) (n * up d * down e))
    where
      right_part : (b dd de : ℕ) → b * q ≤ p' * dd → b * de * q ≤ (p + p') * (de * dd)
      right_part b dd de g =
          let r = part b q p' dd de g in
          let t : p' * (dd * de) ≡ p' * (de * dd) = ap (λ (z : ℕ). p' * z) (mul_comm dd de) in
          rw (add-mul p p' (de * dd)) (omega (arith, r, t))
  add_most (fin false m e) nan h g = tt
  add_most (fin false m e) (inf t) h g = absurd g
  add_most (fin false m e) (fin true (suc n) d) h g = absurd g
  add_most (fin false m e) (fin true zero d) h g =
      lesser (m * up e * down d) (0 * up d * down e) (down e * down d) (none_of (up d) (down e)) (mul-pos (down_pos e) (down_pos d)) (left_part (m * up e) (down e) (down d) h)
    where
      left_part : (a de dd : ℕ) → a * q ≤ p * de → a * dd * q ≤ (p + p') * (de * dd)
      left_part a de dd h =
          let l = part a q p de dd h in
          rw (add-mul p p' (de * dd)) (omega (arith, l))
  add_most (fin false m e) (fin false n d) h g =
      most_round (m * up e * down d + n * up d * down e) (down e * down d) (p + p') q (mul-pos (down_pos e) (down_pos d)) hq hp exact
      (sum_cross (m * up e) (down e) (n * up d) (down d) h g)

-- ---- a ninth

pub ninth_most : (x : Float) → Exact 1 8 → Most 1 1 x → Most 1 8 (div binary32 x (fin false 9 (pos 0)))
unfolding div
ninth_most nan ex h = tt
ninth_most (inf s) ex h = absurd h
ninth_most (fin true (suc m) e) ex h = absurd h
ninth_most (fin true zero e) ex h = round_zero true (0 * up e * 1) (9 * 1 * down e) 1 8 (none_of (up e) 1) (mul-pos (zero-lt-suc 8) (down_pos e))
ninth_most (fin false m e) ex h =
    most_round (m * up e * 1) (9 * 1 * down e) 1 8 (mul-pos (zero-lt-suc 8) (down_pos e)) (zero-lt-suc 7) (zero-lt-suc 0) ex (omega (arith, h))

-- ---- more, and finite

pub most_more : (p q p' q' : ℕ) → 0 < q → p * q' ≤ p' * q → (x : Float) → Most p q x → Most p' q' x
most_more p q p' q' hq c nan h = tt
most_more p q p' q' hq c (inf s) h = absurd h
most_more p q p' q' hq c (fin true zero e) h = tt
most_more p q p' q' hq c (fin true (suc m) e) h = absurd h
most_more p q p' q' hq c (fin false m e) h = through (m * up e) p p' (down e) q q' hq h c

pub most_finite : (p q : ℕ) (x : Float) → Most p q x → T (is_number x) → T (is_finite x)
unfolding is_finite is_nan
most_finite p q nan h n = absurd n
most_finite p q (inf s) h n = absurd h
most_finite p q (fin s m e) h n = tt

-- ---- values of the format

pub exact_power : (k : ℕ) → k < 128 → Exact (2 ^ k) 1
exact_power k h =
    round_exact binary32 false (2 ^ k) 1 1 (149 + k) (zero-lt-suc 0) (pow-lt {i = 0} {j = 24} (zero-lt-suc 23)) (small (pow-lt {i = 149 + k} {j = 277} (omega arith)))
    (mul_comm (2 ^ k) (2 ^ 149) ∙ sym (pow-add 2 149 k) ∙ sym (mul-one (1 * 2 ^ (149 + k)) ∙ one (2 ^ (149 + k))))
  where
    one : (x : ℕ) → 1 * x ≡ x
    one x = omega arith

    small : 2 ^ (149 + k) < 2 ^ 277 → 1 * 2 ^ (149 + k) < 2 ^ 277
    small h = subst (λ (x : ℕ). x < 2 ^ 277) (sym (one (2 ^ (149 + k)))) h

-- a small number of eighths
pub exact_eighths : (p : ℕ) → p < 64 → Exact p 8
exact_eighths p h =
    round_exact binary32 false p 8 p 146 (zero-lt-suc 7) (fewer p h) (below p h) (sym (mul_assoc p (2 ^ 146) 8))
  where
    fewer : (p : ℕ) → p < 64 → p < 2 ^ 24
    fewer p h = omega arith

    below : (p : ℕ) → p < 64 → p * 2 ^ 146 < 2 ^ 277
    below p h = mul_lt_pow 6 271 h (pow-lt {i = 146} {j = 271} (omega arith))

-- a number of up to 24 digits
pub exact_small : (p : ℕ) → p < 2 ^ 24 → Exact p 1
exact_small p h = round_exact binary32 false p 1 p 149 (zero-lt-suc 0) h (le_trans (shl_lt 24 149 h) (le_of_lt (pow-lt {i = 173} {j = 277} (omega arith)))) (sym (mul-one (p * 2 ^ 149)))

-- a few times 2 ^ 124
pub exact_times : (k : ℕ) → k < 16 → Exact (k * 2 ^ 124) 1
exact_times k h =
    round_exact binary32 false (k * 2 ^ 124) 1 k 273 (zero-lt-suc 0) (fewer k h) (shl_lt 4 273 h) (mul_assoc k (2 ^ 124) (2 ^ 149) ∙ sym (mul-one (k * 2 ^ 273)))
  where
    fewer : (k : ℕ) → k < 16 → k < 2 ^ 24
    fewer k h = omega arith

-- ---- from 0 to 1

pub unit_most : (x : Float) → NotNegative x → T (not (lt one32 x)) → Most 1 1 x
unfolding lt of_bits
unit_most nan n h = tt
unit_most (inf true) n h = absurd n
unit_most (inf false) n h = absurd h
unit_most (fin true zero e) n h = tt
unit_most (fin true (suc m) e) n h = absurd n
unit_most (fin false m e) n h = let l = nltb→le (1 * 1 * down e) (m * up e * 1) h in omega (arith, l)

pub clamp_most : (x : Float) → Most 1 1 (clamp_of x zero32 one32)
clamp_most x = unit_most (clamp_of x zero32 one32) (clamp_not_negative x) (clamp_below x)

pub one_most : Most 1 1 one32
unfolding of_bits
one_most = omega arith

pub zero_is_most : (p q : ℕ) → Most p q zero32
unfolding of_bits
zero_is_most p q = none (pos 0) p q

-- `k - x` for a literal k from 1 on
pub less_most : (k : ℕ) (x : Float) → 0 < k → Exact k 1 → Most k 1 x → Most k 1 (sub binary32 (fin false k (pos 0)) x)
unfolding sub add neg sum
less_most k nan hk ex h = tt
less_most k (inf s) hk ex h = absurd h
less_most k (fin true (suc m) e) hk ex h = absurd h
less_most k (fin true zero e) hk ex h =
    most_round (k * 1 * down e + 0 * up e * 1) (1 * down e) k 1 (mul-pos (zero-lt-suc 0) (down_pos e)) (zero-lt-suc 0) hk ex
    (let a = none_of (up e) 1 in let b = mul-one k in rw (a, b) (flat k (down e)))
  where
    flat : (k d : ℕ) → (k * d + 0) * 1 ≤ k * (1 * d)
    flat k d = let e : 1 * d ≡ d = omega arith in rw (e, mul-one (k * d + 0)) (omega arith)
less_most k (fin false m e) hk ex h =
    rw (le-ltb (k * 1 * down e) (m * up e * 1) (rw (mul-one k) (le_trans (le_of_eq refl) h)))
    (most_round (k * 1 * down e - m * up e * 1) (1 * down e) k 1 (mul-pos (zero-lt-suc 0) (down_pos e)) (zero-lt-suc 0) hk ex
    (rw (mul-one k) (flat k (m * up e * 1) (down e))))
  where
    flat : (k a d : ℕ) → (k * d - a) * 1 ≤ k * (1 * d)
    flat k a d = let e : 1 * d ≡ d = omega arith in rw e (omega arith)

-- ---- a root

root_bound : (q n N : ℕ) → q * q ≤ n → n ≤ N * N → q * 2 + cond (eqb (q * q) n) 0 1 ≤ N * 2
root_bound q n N h g = go (eqb (q * q) n) (ne_sum (q * q) n)
  where
    false_eq : (b : Bool) → b ≡ true → T (not b) → ⊥
    false_eq true e t = t
    false_eq false e t = let z : ◌≡◌ {A = ℕ} 0 1 = ap (λ (c : Bool). cond c 1 0) e in let no : ⊥ = omega arith in no

    ne_sum : (a n : ℕ) → T (not (eqb a n)) → a ≡ n → ⊥
    ne_sum a n t e = false_eq (eqb a n) (eq-eqb a n e) t

    wide : (N : ℕ) → N * N < (N + 1) * (N + 1)
    wide N =
        let above : N < N + 1 = omega arith in
        let some : 0 < N + 1 = omega arith in
        lt_of_le_of_lt (mul-le-mul (le_refl N) (le_of_lt above)) (mul-lt-mul_of_pos_right above some)

    low : q < N + 1
    low = square_lt_back q (N + 1) (lt_of_le_of_lt (le_trans h g) (wide N))

    go : (b : Bool) → (T (not b) → q * q ≡ n → ⊥) → q * 2 + cond b 0 1 ≤ N * 2
    go true f = let l = low in omega arith
    go false f =
        let less : q * q < n = (let e = f tt in omega (arith, h, e)) in
        let l : q < N = square_lt_back q N (lt_of_lt_of_le less g) in
        omega arith

root_most : (m : ℕ) (e : ℤ) → suc m * up e * 1 ≤ 1 * down e → Most 1 1 (root_of (suc m * up e * 2 ^ 298 / down e))
unfolding root_of
root_most m e h =
    let n = suc m * up e * 2 ^ 298 / down e in
    let x = suc m * up e in
    let l : x ≤ down e = omega (arith, h) in
    let small : n ≤ 2 ^ 298 = div_mono (x * 2 ^ 298) (down e) (2 ^ 298) 1 (down_pos e) (zero-lt-suc 0) (le_trans (le_of_eq (mul-one (x * 2 ^ 298))) (le_trans (mul-le-mul l (le_refl (2 ^ 298))) (le_of_eq (mul_comm (down e) (2 ^ 298))))) in
    let is = isqrt_is 213 n (lt_of_le_of_lt small (pow-lt {i = 298} {j = 426} (omega arith))) in
    let q = isqrt 213 n in
    most_round (q * 2 + cond (eqb (q * q) n) 0 1) (2 ^ 150) 1 1 (pow_pos 150) (zero-lt-suc 0) (zero-lt-suc 0) (exact_power 0 (zero-lt-suc 127))
    (le_trans (le_of_eq (mul-one (q * 2 + cond (eqb (q * q) n) 0 1))) (root_bound q n (2 ^ 149) is.0 small))

pub sqrt_most : (x : Float) → Most 1 1 x → Most 1 1 (sqrt_of x)
unfolding sqrt_of
sqrt_most nan h = tt
sqrt_most (inf s) h = absurd h
sqrt_most (fin true zero e) h = tt
sqrt_most (fin true (suc m) e) h = absurd h
sqrt_most (fin false zero e) h = h
sqrt_most (fin false (suc m) e) h = root_most m e h
