-- A root grows with its number.
use Prim.Native.Nat.{ℕ, zero, suc, ◌+◌, ◌*◌, ◌/◌, ◌^◌, ◌≤◌, ◌<◌}
use mathlib.Core.Path.{◌≡◌, ap}
use mathlib.Core.Bool.{Bool, true, false, cond}
use native.Mathlib.Omega.{arith}
use native.Mathlib.Nat.{le_trans, le_of_eq, le_of_mul-le-mul_right, mul_right_comm, div-mul-le_self, le-div_iff_mul-le, mul-le-mul_right, mul-mul-mul_comm}
use lib.Pow.{pow_pos}
use lib.IntN.{ℤ}
use borrow.Author.Tests.{le-leb, lt-leb, eq-eqb, ne_eqb}
use lib.Dec.{T, leb, eqb}
use lib.Ieee.{fin, up, down, binary32, le}
use lib.Ieee.Order.{round_mono}
use lib.Ieee.Fits.{down_pos}
use Rattle.float.specs.Sqrt.{digit, isqrt, root_of, sqrt_of}
use Rattle.float.proofs.Numbers.{by_order}

-- ---- the whole part

digit_low : (n r : ℕ) → r * 2 ≤ digit n r
digit_low n r = by (leb ((r * 2 + 1) * (r * 2 + 1)) n) where
  by : (b : Bool) → r * 2 ≤ cond b (r * 2 + 1) (r * 2)
  by true = omega arith
  by false = omega arith

digit_high : (n r : ℕ) → digit n r ≤ r * 2 + 1
digit_high n r = by (leb ((r * 2 + 1) * (r * 2 + 1)) n) where
  by : (b : Bool) → cond b (r * 2 + 1) (r * 2) ≤ r * 2 + 1
  by true = omega arith
  by false = omega arith

-- the last digit is 1 where the square fits, and 0 else
digit_one : (n r : ℕ) → (r * 2 + 1) * (r * 2 + 1) ≤ n → digit n r ≡ r * 2 + 1
digit_one n r h = ap (λ (b : Bool). cond b (r * 2 + 1) (r * 2)) (le-leb _ _ h)

digit_zero : (n r : ℕ) → n < (r * 2 + 1) * (r * 2 + 1) → digit n r ≡ r * 2
digit_zero n r h = ap (λ (b : Bool). cond b (r * 2 + 1) (r * 2)) (lt-leb _ _ h)

digit_mono : (n m r s : ℕ) → n ≤ m → r ≤ s → digit n r ≤ digit m s
digit_mono n m r s h k =
    by_order s r
    (λ e.
    let z : s ≡ r = omega arith in
    rw z
    (by_order ((r * 2 + 1) * (r * 2 + 1)) n
    (λ fits. rw (digit_one n r fits, digit_one m r (le_trans fits h)) (let f : r * 2 + 1 ≤ r * 2 + 1 = omega arith in f))
    (λ over. rw (digit_zero n r over) (digit_low m r))))
    (λ less. le_trans (digit_high n r) (le_trans (let f : r * 2 + 1 ≤ s * 2 = omega arith in f) (digit_low m s)))

quarter : (n m : ℕ) → n ≤ m → n / 4 ≤ m / 4
quarter n m h = (le-div_iff_mul-le (let f : 0 < 4 = omega arith in f)).1 (le_trans (div-mul-le_self n 4) h)

isqrt_mono : (d n m : ℕ) → n ≤ m → isqrt d n ≤ isqrt d m
unfolding isqrt
isqrt_mono zero n m h = omega arith
isqrt_mono (suc d) n m h = digit_mono n m (isqrt d (n / 4)) (isqrt d (m / 4)) h (isqrt_mono d (n / 4) (m / 4) (quarter n m h))

isqrt_low : (d n : ℕ) → isqrt d n * isqrt d n ≤ n
unfolding isqrt
isqrt_low zero n = omega arith
isqrt_low (suc d) n = by (isqrt d (n / 4)) (isqrt_low d (n / 4)) where
  by : (r : ℕ) → r * r ≤ n / 4 → digit n r * digit n r ≤ n
  by r h =
      by_order ((r * 2 + 1) * (r * 2 + 1)) n
      (λ fits. rw (digit_one n r fits) fits)
      (λ over. rw (digit_zero n r over) (le_trans (let f : r * 2 * (r * 2) ≤ n / 4 * 4 = four r (n / 4) h in f) (div-mul-le_self n 4)))
    where
      four : (r q : ℕ) → r * r ≤ q → r * 2 * (r * 2) ≤ q * 4
      four r q h = rw (mul-mul-mul_comm r 2 r 2) (mul-le-mul_right 4 h)

-- ---- the root

abbrev parts : ℕ → ℕ → ℕ
parts n q = q * 2 + cond (eqb (q * q) n) 0 1

parts_low : (n q : ℕ) → q * 2 ≤ parts n q
parts_low n q = omega arith

parts_high : (n q : ℕ) → parts n q ≤ q * 2 + 1
parts_high n q = by (eqb (q * q) n) where
  by : (b : Bool) → q * 2 + cond b 0 1 ≤ q * 2 + 1
  by true = omega arith
  by false = omega arith

parts_mono : (n m q p : ℕ) → n ≤ m → q ≤ p → q * q ≤ n → parts n q ≤ parts m p
parts_mono n m q p h k low =
    by_order p q
    (λ e.
    let z : p ≡ q = omega arith in
    rw z
    (by_order n (q * q)
    (λ same. let f : q * q ≡ n = omega arith in rw (eq-eqb _ _ f) (let g : q * 2 + 0 ≤ parts m q = omega arith in g))
    (λ more. rw (ne_eqb (q * q) m (λ z. omega arith)) (parts_high n q))))
    (λ less. le_trans (parts_high n q) (le_trans (let f : q * 2 + 1 ≤ p * 2 = omega arith in f) (parts_low m p)))

pub root_mono : (n m : ℕ) → n ≤ m → T (le (root_of n) (root_of m))
unfolding root_of
root_mono n m h =
    round_mono binary32 (parts n (isqrt 213 n)) (2 ^ 150) (parts m (isqrt 213 m)) (2 ^ 150) (pow_pos 150) (pow_pos 150)
    (mul-le-mul_right (2 ^ 150) (parts_mono n m (isqrt 213 n) (isqrt 213 m) h (isqrt_mono 213 n m h) (isqrt_low 213 n)))

-- ---- floats

-- with a over d, and b over e
div_mono : (a d b e : ℕ) → 0 < d → 0 < e → a * e ≤ b * d → a / d ≤ b / e
div_mono a d b e D E h =
    (le-div_iff_mul-le E).1
    (le_of_mul-le-mul_right
    (le_trans (le_of_eq (mul_right_comm (a / d) e d)) (le_trans (mul-le-mul_right e (div-mul-le_self a d)) h)) D)

pub sqrt_mono :
    (m n : ℕ) (e d : ℤ) → suc m * up e * down d ≤ suc n * up d * down e → T (le (sqrt_of (fin false (suc m) e)) (sqrt_of (fin false (suc n) d)))
unfolding sqrt_of
sqrt_mono m n e d h =
    root_mono (suc m * up e * 2 ^ 298 / down e) (suc n * up d * 2 ^ 298 / down d)
    (div_mono (suc m * up e * 2 ^ 298) (down e) (suc n * up d * 2 ^ 298) (down d) (down_pos e) (down_pos d)
    (le_trans (le_of_eq (mul_right_comm (suc m * up e) (2 ^ 298) (down d)))
    (le_trans (mul-le-mul_right (2 ^ 298) h) (le_of_eq (mul_right_comm (suc n * up d) (down e) (2 ^ 298))))))
