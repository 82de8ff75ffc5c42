-- `text::float_of` meets its contract: a pattern of a NaN is read as NaN, any other as it is.
use Rattle.std.proofs.Common.{◌≡◌, ℕ, ◌%◌, ◌<◌, ◌≤◌, Bool, not, T, sym, refl, ◌∙◌, subst, arith, lt-ltb}
use lib.Arith.{le→nltb}
use lib.Ieee.{Float, nan, inf, fin, binary32, of_bits, nan_bits, is_nan, div}
use lib.Ieee.Bits.{nan_bits_above, nan_bits_is}
use Rattle.text.proofs.float_of.Goals as goal

no_nan : (n : ℕ) → n % 2147483648 ≤ 2139095040 → T (not (nan_bits binary32 n))
no_nan n h = subst (λ (b : Bool). T (not b)) (sym (nan_bits_above binary32 n)) (le→nltb 2139095040 (n % 2147483648) h)

only_nan : (x : Float) → T (is_nan x) → nan ≡ x
unfolding is_nan
only_nan nan h = refl
only_nan (inf s) h = absurd h
only_nan (fin s m e) h = absurd h

a_nan : (n : ℕ) → 2139095040 < n % 2147483648 → nan ≡ of_bits binary32 n
a_nan n h =
    only_nan (of_bits binary32 n)
    (subst T (sym (sym (nan_bits_is binary32 n) ∙ nan_bits_above binary32 n ∙ lt-ltb 2139095040 (n % 2147483648) h)) tt)

pub returns-then-w-gt2139095040 : goal.returns-then-w-gt2139095040
unfolding div of_bits
returns-then-w-gt2139095040 c = a_nan c.args.w c.if-w-gt2139095040.true

pub float_from_bits-result : goal.float_from_bits-result
float_from_bits-result c = no_nan c.args.w (omega (arith, c.if-w-gt2139095040.false))
