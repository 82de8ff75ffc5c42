-- The keys of the infinite values lie outside those of the finite ones: a pattern whose exponent is all ones is not finite.
use Prim.Native.Nat.{ℕ, ◌/◌, ◌%◌, ◌<◌}
use mathlib.Core.Path.{◌≡◌, refl, sym, subst}
use mathlib.Core.Bool.{Bool, true, false, cond}
use native.Mathlib.Omega.{arith}
use lib.Dec.{T, leb, eqb}
use lib.Ieee.{Float, nan, inf, binary32, fits, of_fields, of_bits, to_bits}
use lib.Ieee.Bits.{of_bits-to_bits, to_bits-lt}
use borrow.Author.Tests.{lt-ltb, le-ltb}
use Rattle.float.specs.Key.{key_bits, key_of_float}
use Rattle.float.specs.Compare.{is_finite}
use Rattle.float.proofs.Numbers.{by_order}

pub infinite_key : (key_of_float (inf false) ≡ 4286578688) × (key_of_float (inf true) ≡ 8388608)
unfolding key_of_float to_bits
infinite_key = (refl, refl)

-- the field of ones is that of an infinity or a NaN
ones_not : (s : Bool) (t : ℕ) → T (is_finite (of_fields binary32 s 255 t)) → ⊥
unfolding of_fields is_finite
ones_not s t h = go (eqb t 0) h
  where
    go : (b : Bool) → T (is_finite (cond b (inf s) nan)) → ⊥
    go true h = h
    go false h = h

field_less : (x : Float) → T (fits binary32 x) → T (is_finite x) → to_bits binary32 x % 2147483648 < 2139095040
unfolding of_bits
field_less x f h =
    let b = to_bits binary32 x in
    let e : of_bits binary32 b ≡ x = of_bits-to_bits binary32 x f in
    by_order 2139095040 (b % 2147483648)
    (λ l.
    let g : b % 2147483648 / 8388608 ≡ 255 = omega arith in
    absurd (ones_not (leb 2147483648 b) (b % 8388608) (subst (λ (k : ℕ). T (is_finite (of_fields binary32 (leb 2147483648 b) k (b % 8388608)))) g (subst (λ (y : Float). T (is_finite y)) (sym e) h))))
    (λ l. l)

key_in : (b : ℕ) → b < 4294967296 → b % 2147483648 < 2139095040 → (8388608 < key_bits b) × (key_bits b < 4286578688)
key_in b h k =
    by_order 2147483648 b (λ l. rw (le-ltb b 2147483648 l) (omega arith, omega arith)) (λ l. rw (lt-ltb b 2147483648 l) (omega arith, omega arith))

pub finite_low : (x : Float) → T (fits binary32 x) → T (is_finite x) → 8388608 < key_of_float x
unfolding key_of_float
finite_low x f h = (key_in (to_bits binary32 x) (to_bits-lt binary32 x f) (field_less x f h)).0

pub finite_high : (x : Float) → T (fits binary32 x) → T (is_finite x) → key_of_float x < 4286578688
unfolding key_of_float
finite_high x f h = (key_in (to_bits binary32 x) (to_bits-lt binary32 x f) (field_less x f h)).1
