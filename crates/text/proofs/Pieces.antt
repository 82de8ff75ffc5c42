-- Laws of what is printed: the last digits of a number, and how long the pieces are.
use Rattle.std.proofs.Common.{◌≡◌, ℕ, zero, suc, ◌+◌, ◌-◌, ◌/◌, ◌%◌, ◌^◌, ◌≤◌, Bool, true, false, cond, eqb, [], ◌∷◌, ◌++◌, length, refl, ap, arith, length-append}
use lib.Ieee.{Float, binary32, of_bits, lt}
use Rattle.listing.specs.Text.{digits_of}
use Rattle.listing.proofs.Writing.{digits_length}
use Rattle.text.specs.Fixed.{sign_of, last_digits, parts_of}

pub last_none : (k n : ℕ) → k ≡ 0 → [] ≡ last_digits k n
unfolding last_digits
last_none k n e = rw e

pub last_more : (k n : ℕ) → (k ≡ 0 → ⊥) → last_digits k n ≡ last_digits (k - 1) (n / 10) ++ (48 + n % 10) ∷ []
unfolding last_digits
last_more zero n z = absurd (z refl)
last_more (suc k) n z =
    ap (λ (j : ℕ). last_digits j (n / 10) ++ (48 + n % 10) ∷ []) (let e : k ≡ suc k - 1 = omega arith in e)

pub last_length : (k n : ℕ) → length (last_digits k n) ≤ k
unfolding last_digits
last_length zero n = omega arith
last_length (suc k) n =
    let h = last_length k (n / 10) in
    let e = length-append (last_digits k (n / 10)) ((48 + n % 10) ∷ []) in
    omega arith

pub sign_length : (x : Float) (m : ℕ) → length (sign_of x m) ≤ 1
unfolding sign_of
sign_length x m = by (eqb m 0) (lt x (of_bits binary32 0))
  where
    by : (a b : Bool) → length {A = ℕ} (cond a [] (cond b (45 ∷ []) [])) ≤ 1
    by true b = omega arith
    by false true = omega arith
    by false false = omega arith

pub parts_length : (m k : ℕ) → length (parts_of m k) ≤ 21 + k
unfolding parts_of
parts_length m k =
    let a = digits_length 20 (m / 10 ^ k) in
    let b = last_length k m in
    let c = length-append (digits_of 20 (m / 10 ^ k)) (46 ∷ []) in
    let d = length-append (digits_of 20 (m / 10 ^ k) ++ 46 ∷ []) (last_digits k m) in
    omega arith
