-- The millimetres of a float, from the whole part of 2,000 times it in binary64.
use Rattle.std.proofs.Common.{◌≡◌, ℕ, zero, suc, ◌+◌, ◌-◌, ◌*◌, ◌/◌, ◌^◌, ◌<◌, ◌≤◌, min, true, false, T, ℤ, pos, sym, refl, ap, ◌∙◌, subst, true≢false, le_trans, le_of_eq, lt_of_lt_of_le, not-suc-le-zero, mul-le-mul_right, zero-lt-suc, div-lt_iff_lt-mul, lt_of_mul-lt-mul_right, mul-lt-mul_of_pos_right, mul-pos, lt_of_not-le, le-div_iff_mul-le, zero-mul, mul-one, mul_right_comm, arith, lit<, lit≤, ltb→lt, lt→ltb}
use native.Mathlib.Nat.{div-eq_of_lt}
use native.Mathlib.Decide.{dec_le}
use lib.Ieee.{Float, nan, inf, fin, binary32, binary64, up, down, mul, lt, of_bits, fits, to_unsigned}
use lib.Ieee.Fits.{down_pos, up_pos}
use lib.Ieee.Exact.{HasValue}
use Rattle.float.specs.Literals.{zero32}
use Rattle.float.specs.Compare.{is_finite}
use Rattle.air.specs.Air.{millimetres_of}
use Rattle.air.specs.Kept.{most_millimetres}
use Rattle.air.proofs.Whole.{product_value, whole_part, halves_up}

-- 2,000, and what twice the millimetres are compared with
abbrev pub two_thousand : Float
two_thousand = of_bits binary64 4656510908468559872

abbrev pub too_far : Float
too_far = of_bits binary64 4782611698034933760

-- twice the millimetres of a positive float
abbrev pub twice_of : Float → Float
twice_of x = mul binary64 x two_thousand

whole_two_thousand : HasValue two_thousand false 2000 1
unfolding of_bits
whole_two_thousand = (refl, refl)

-- "halves up", from the whole part of twice of it
rounded : (m : ℕ) (e : ℤ) → (2 * (suc m * up e * 1000) + down e) / (2 * down e) ≡ (suc m * up e * 2000 / down e + 1) / 2
rounded m e =
    halves_up (suc m * up e * 1000) (down e) (down_pos e)
    ∙ ap (λ (a : ℕ). (a / down e + 1) / 2) (let x : ℕ = suc m * up e in let q : 2 * (x * 1000) ≡ x * 2000 = omega arith in q)

-- ---- how twice of them compares

-- a number that is not negative is above -1
above_minus_one : (x : Float) (a c : ℕ) → HasValue x false a c → T (lt (fin true 1 (pos 0)) x)
unfolding lt
above_minus_one nan a c v = absurd v
above_minus_one (inf s) a c v = absurd v
above_minus_one (fin true m e) a c v = absurd (true≢false v.0)
above_minus_one (fin false m e) a c v = lt→ltb 0 (1 * down e + m * up e * 1) (let h = down_pos e in omega (arith, h))

-- below a whole number n * 2 ^ k, and back
lt_cross : (x : Float) (a c n k : ℕ) → 0 < c → HasValue x false a c → T (lt x (fin false n (pos k))) → a < n * 2 ^ k * c
unfolding lt
lt_cross nan a c n k p v t = absurd v
lt_cross (inf s) a c n k p v t = absurd v
lt_cross (fin true m e) a c n k p v t = absurd (true≢false v.0)
lt_cross (fin false m e) a c n k p v t =
    lt_of_mul-lt-mul_right (down e)
    (subst (λ (z : ℕ). z < n * 2 ^ k * c * down e) v.1
    (subst (λ (z : ℕ). m * up e * c < z) (mul_right_comm (n * 2 ^ k) (down e) c)
    (mul-lt-mul_of_pos_right (subst (λ (z : ℕ). z < n * 2 ^ k * down e) (mul-one (m * up e)) (ltb→lt (m * up e * 1) (n * 2 ^ k * down e) t)) p)))

cross_lt : (x : Float) (a c n k : ℕ) → 0 < c → HasValue x false a c → a < n * 2 ^ k * c → T (lt x (fin false n (pos k)))
unfolding lt
cross_lt nan a c n k p v h = absurd v
cross_lt (inf s) a c n k p v h = absurd v
cross_lt (fin true m e) a c n k p v h = absurd (true≢false v.0)
cross_lt (fin false m e) a c n k p v h =
    lt→ltb (m * up e * 1) (n * 2 ^ k * down e)
    (subst (λ (z : ℕ). z < n * 2 ^ k * down e) (sym (mul-one (m * up e)))
    (lt_of_mul-lt-mul_right c
    (subst (λ (z : ℕ). z < n * 2 ^ k * down e * c) (sym v.1)
    (subst (λ (z : ℕ). a * down e < z) (mul_right_comm (n * 2 ^ k) c (down e))
    (mul-lt-mul_of_pos_right h (down_pos e))))))

-- ---- what the code answers for a positive float

record Told (x : Float) : Type 0 where
  pub size : ℕ
  pub under : ℕ
  pub some : 0 < under
  pub value : HasValue (twice_of x) false size under
  pub metres : millimetres_of x ≡ (size / under + 1) / 2

not_above : (e : ℤ) → T (lt zero32 (fin false zero e)) → ⊥
unfolding lt of_bits
not_above e h = not-suc-le-zero (le_trans (ltb→lt _ _ h) (le_of_eq (ap (λ (y : ℕ). y * down (pos 0)) (zero-mul (up e)) ∙ zero-mul (down (pos 0)))))

told : (x : Float) → T (fits binary32 x) → T (is_finite x) → T (lt zero32 x) → Told x
unfolding lt millimetres_of is_finite of_bits
told nan f g h = absurd g
told (inf s) f g h = absurd g
told (fin true m e) f g h = absurd h
told (fin false zero e) f g h = absurd (not_above e h)
told (fin false (suc m) e) f g h = record {
  size = suc m * up e * 2000;
  under = down e;
  some = down_pos e;
  value = product_value m e 2000 f (lit< tt) two_thousand whole_two_thousand;
  metres = rounded m e;
}

finite_of_lem : (x : Float) → T (lt zero32 x) → T (lt (twice_of x) too_far) → T (is_finite x)
unfolding lt is_finite of_bits mul
finite_of_lem nan h k = absurd h
finite_of_lem (inf true) h k = absurd h
finite_of_lem (inf false) h k = absurd k
finite_of_lem (fin s m e) h k = tt

-- a / c is at most n where a is below n * c, and at least n where it is not
quotient_under : (a c n : ℕ) → 0 < c → a < n * c → a / c < n
quotient_under a c n p h = (div-lt_iff_lt-mul p).1 h

quotient_over : (a c n : ℕ) → 0 < c → n * c ≤ a → n ≤ a / c
quotient_over a c n p h = (le-div_iff_mul-le p).1 h

not_under : (a b : ℕ) → (a < b → ⊥) → b ≤ a
not_under a b h = by (dec_le b a)
  where
    by : Dec (b ≤ a) → b ≤ a
    by (yes k) = k
    by (no k) = absurd (h (lt_of_not-le k))

-- ---- the four ways of the code

pub record Near (x : Float) : Type 0 where
  pub low : T (lt (fin true 1 (pos 0)) (twice_of x))
  pub high : T (lt (twice_of x) (fin false 1 (pos 64)))
  pub whole : to_unsigned 64 (twice_of x) < 536870912000
  pub half : (to_unsigned 64 (twice_of x) + 1) / 2 ≡ min (millimetres_of x) most_millimetres

pub near : (x : Float) → T (fits binary32 x) → T (lt zero32 x) → T (lt (twice_of x) too_far) → Near x
unfolding of_bits
near x f h k =
    let t = told x f (finite_of_lem x h k) h in
    let a = t.size in
    let c = t.under in
    let less : a < 125 * 2 ^ 32 * c = lt_cross (twice_of x) a c 125 32 t.some t.value k in
    let q : a / c < 536870912000 = quotient_under a c 536870912000 t.some less in
    let w : to_unsigned 64 (twice_of x) ≡ a / c = whole_part (twice_of x) a c t.some t.value ∙ (let e : min (a / c) (2 ^ 64 - 1) ≡ a / c = omega (arith, q) in e) in
    record {
      low = above_minus_one (twice_of x) a c t.value;
      high = cross_lt (twice_of x) a c 1 64 t.some t.value (lt_of_lt_of_le less (mul-le-mul_right c (lit≤ tt)));
      whole = subst (λ (n : ℕ). n < 536870912000) (sym w) q;
      half = ap (λ (n : ℕ). (n + 1) / 2) w ∙ (let e : (a / c + 1) / 2 ≡ min ((a / c + 1) / 2) most_millimetres = omega (arith, q) in e) ∙ ap (λ (n : ℕ). min n most_millimetres) (sym t.metres);
    }

pub far : (x : Float) → T (fits binary32 x) → T (is_finite x) → T (lt zero32 x) → lt (twice_of x) too_far ≡ false → most_millimetres ≡ min (millimetres_of x) most_millimetres
unfolding of_bits
far x f g h k =
    let t = told x f g h in
    let a = t.size in
    let c = t.under in
    let q : 536870912000 ≤ a / c = quotient_over a c 536870912000 t.some (not_under a (536870912000 * c) (λ l. absurd (subst T k (cross_lt (twice_of x) a c 125 32 t.some t.value l)))) in
    (let e : most_millimetres ≡ min ((a / c + 1) / 2) most_millimetres = omega (arith, q) in e) ∙ ap (λ (n : ℕ). min n most_millimetres) (sym t.metres)

pub endless : (x : Float) → is_finite x ≡ false → 0 ≡ min (millimetres_of x) most_millimetres
unfolding is_finite millimetres_of
endless nan g = refl
endless (inf s) g = refl
endless (fin s m e) g = absurd (true≢false g)

no_digits : (e : ℤ) → (2 * (zero * up e * 1000) + down e) / (2 * down e) ≡ 0
no_digits e =
    ap (λ (n : ℕ). (2 * (n * 1000) + down e) / (2 * down e)) (zero-mul (up e))
    ∙ div-eq_of_lt (let h = down_pos e in let g : 2 * (0 * 1000) + down e < 2 * down e = omega (arith, h) in g)

above_zero : (m : ℕ) (e : ℤ) → 0 * up (pos 0) * down e < suc m * up e * 1
above_zero m e =
    let u = up_pos e in
    let p : 0 < suc m * up e = mul-pos (zero-lt-suc m) u in
    omega (arith, p)

pub no_length : (x : Float) → lt zero32 x ≡ false → 0 ≡ min (millimetres_of x) most_millimetres
unfolding lt of_bits millimetres_of
no_length nan h = refl
no_length (inf s) h = refl
no_length (fin true m e) h = refl
no_length (fin false zero e) h = sym (ap (λ (n : ℕ). min n most_millimetres) (no_digits e))
no_length (fin false (suc m) e) h = absurd (subst T h (lt→ltb _ _ (above_zero m e)))
