-- What is left in a band is k / 2^24 exactly: no operation rounds.
use Rattle.std.proofs.Common.{◌≡◌, ℕ, ◌*◌, ◌^◌, ◌<◌, ◌≤◌, true, false, sym, refl, ap, ◌∙◌, subst, true≢false, lt_of_le_of_lt, mul-le-mul_right, mul_assoc, mul_comm, mul-pos, one-mul, arith, lit<, pow_pos, pow-add}
use native.Mathlib.Decide.{dec_lt}
use lib.Ieee.{Float, nan, inf, fin, binary32, up, down, round, div, of_int, of_bits}
use lib.Ieee.Fits.{down_pos}
use lib.Ieee.Exact.{HasValue, round_exact}
use lib.Ieee.Back.{round_whole}
use lib.Ieee.Scale.{round_same}
use Rattle.air.specs.Air.{steps_of, factor_of_steps, band_of}
use Rattle.air.proofs.Nothing.{factor_most}

quotient : (x : Float) (k : ℕ) → HasValue x false k 1 → div binary32 x (of_bits binary32 0x4b80_0000) ≡ round binary32 false k (2 ^ 24)
unfolding div of_bits
quotient nan k v = absurd v
quotient (inf s) k v = absurd v
quotient (fin true m e) k v = absurd (true≢false v.0)
quotient (fin false m e) k v =
    round_same binary32 false (m * up e * 1) (1 * 2 ^ 24 * down e) k (2 ^ 24) (mul-pos (lit< tt) (down_pos e)) (pow_pos 24)
    (ap (λ (z : ℕ). z * 2 ^ 24) v.1 ∙ mul_assoc k (down e) (2 ^ 24) ∙ ap (λ (z : ℕ). k * z) (mul_comm (down e) (2 ^ 24) ∙ ap (λ (z : ℕ). z * down e) (sym (one-mul (2 ^ 24)))))

exact : (k : ℕ) → k ≤ 2 ^ 24 → HasValue (round binary32 false k (2 ^ 24)) false k (2 ^ 24)
exact k h = by (dec_lt k (2 ^ 24))
  where
    by : Dec (k < 2 ^ 24) → HasValue (round binary32 false k (2 ^ 24)) false k (2 ^ 24)
    by (yes l) =
        round_exact binary32 false k (2 ^ 24) k 125 (pow_pos 24) l
        (lt_of_le_of_lt (mul-le-mul_right (2 ^ 125) h) (lit< tt))
        (ap (λ (z : ℕ). k * z) (pow-add 2 125 24) ∙ sym (mul_assoc k (2 ^ 125) (2 ^ 24)))
    by (no l) =
        let e : k ≡ 2 ^ 24 = omega arith in
        subst (λ (z : ℕ). HasValue (round binary32 false z (2 ^ 24)) false z (2 ^ 24)) (sym e)
        (round_exact binary32 false (2 ^ 24) (2 ^ 24) 1 149 (pow_pos 24) (lit< tt) (lit< tt) refl)

pub band_value : (c n : ℕ) → HasValue (band_of c n) false (factor_of_steps (steps_of c n)) (2 ^ 24)
unfolding band_of of_int
band_value c n =
    let k = factor_of_steps (steps_of c n) in
    subst (λ (x : Float). HasValue x false k (2 ^ 24)) (sym (quotient (round binary32 false k 1) k (round_whole binary32 false k (factor_most (steps_of c n)))))
    (exact k (factor_most (steps_of c n)))
