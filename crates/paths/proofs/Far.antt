-- The gain by distance is at most 2 ^ 45, where the distance model's numbers lie within document 01's limits. The curve Inverse divides by a
-- millionth of the reference distance at least; the curve Linear by the gap between two floats, which is at least 2 ^ -24 of the lesser.
use mathlib.Core.Path.{◌≡◌, refl, sym, ap, subst, ◌∙◌}
use mathlib.Core.Bool.{Bool, true, false, not, cond, ◌&&◌}
use mathlib.Core.Logic.{◌⊎◌, inl, inr, ⊎_elim}
use Prim.Native.Nat.{ℕ, zero, suc, ◌+◌, ◌-◌, ◌*◌, ◌/◌, ◌%◌, ◌^◌, ◌<◌, ◌≤◌, compare}
use native.Mathlib.Nat.{add-mul, mul-pos, zero-lt-suc, zero-mul, mul_comm, mul_assoc, mul-one, one-mul, mul_right_comm, mul_left_comm, mul-le-mul, le_trans, le_of_eq, le_refl, le_of_lt, lt_of_le_of_lt, lt_of_lt_of_le, not-le_of_lt, lt_of_mul-lt-mul_right}
use native.Mathlib.Omega.{arith}
use borrow.Author.Tests.{ne_eqb}
use lib.Dec.{T, ltb, leb, eqb, lt→ltb, ltb→lt, nltb→le}
use lib.Pow.{pow_pos, pow-add, pow-lt, pow_mono, shl_lt}
use lib.IntN.{ℤ, pos, negsuc}
use lib.Ieee.{Float, nan, inf, fin, binary32, up, down, unlike, round, units, odd, size, nearest, sum, neg, add, sub, mul, div, lt, le, fits, is_nan, of_bits}
use lib.Ieee.Bits.{of_bits-fits}
use lib.Ieee.Fits.{up_pos, down_pos, and_l, and_r, cond-fits}
use lib.Ieee.Exact.{HasValue, round_exact}
use lib.Ieee.Order.{round_mono}
use lib.Ieee.Positive.{num, den, positive, den_pos, positive_of_value, value→cross, le→cross, through, above, above_of_le}
use Rattle.float.specs.Literals.{zero32, one32}
use Rattle.float.specs.Compare.{max_of, min_of, is_finite}
use Rattle.float.proofs.Numbers.{by_order}
use Rattle.float.proofs.Compare.{neg_neg}
use Rattle.bands.specs.declared.DistanceModel.{DistanceModel}
use Rattle.bands.specs.declared.DistanceCurve.{DistanceCurve}
use Rattle.bands.specs.declared.DistanceCurve.TheVariants.{Inverse, Linear}
use Rattle.bands.specs.Distance.{micro, held_of, furthest_of, between_of, inverse_of, linear_of, curve_of, gain_of}
use Rattle.scene.specs.Limits.{most_model_number, model_number_of, model_numbers_of}
use Rattle.scene.specs.Limits as scene_limits
use Rattle.paths.specs.Numbers.{ModelFits}
use Rattle.paths.proofs.Signs.{NotNegative, round_false, mul_not_negative, div_not_negative, held_not_negative, not_below}
use Rattle.paths.proofs.Most.{Most, Exact, most_round, round_zero, none, none_of, mul_most, add_most, most_more, exact_power, one_most, zero_is_most, unit_most, less_most}

-- ---- the reference distance: a value of the format from a millionth to 2 ^ 20

pub record Reference (n : ℕ) (d : ℤ) : Type 0 where
  pub some : 0 < n
  pub short : n < 2 ^ 24
  pub low : down d ≤ n * up d * 2 ^ 20
  pub high : n * up d ≤ 2 ^ 20 * down d

up_small : (n e : ℕ) → 0 < n → n * 2 ^ e ≤ 2 ^ 20 * 1 → e ≤ 20
up_small n e hn h =
    by_order e 20 (λ l. l)
    (λ g. absurd (not-le_of_lt (lt_of_lt_of_le (pow-lt {i = 20} {j = e} g) (self n (2 ^ e) hn)) (le_trans h (le_of_eq (mul-one (2 ^ 20))))))
  where
    self : (n x : ℕ) → 0 < n → x ≤ n * x
    self n x h = le_trans (le_of_eq (sym (one-mul x))) (mul-le-mul h (le_refl x))

down_small : (n e : ℕ) → n < 2 ^ 24 → 2 ^ suc e ≤ n * 1 * 2 ^ 20 → suc e ≤ 44
down_small n e hn h =
    by_order (suc e) 44 (λ l. l)
    (λ g. absurd (not-le_of_lt (lt_of_le_of_lt h (lt_of_le_of_lt (le_of_eq (ap (λ (x : ℕ). x * 2 ^ 20) (mul-one n))) (shl_lt 24 20 hn))) (le_of_lt (pow-lt {i = 44} {j = suc e} g))))

-- times 2 ^ i and by 2 ^ j it is a value of the format still
shifted : (n : ℕ) (d : ℤ) (i j k : ℕ) → Reference n d → i ≤ 20 → j + k ≡ 149 → 45 ≤ k → Exact (n * up d * 2 ^ i) (down d * 2 ^ j)
shifted n (pos e) i j k r hi s hk =
    let small = up_small n e r.some r.high in
    round_exact binary32 false (n * 2 ^ e * 2 ^ i) (1 * 2 ^ j) n (e + i + k) (mul-pos (zero-lt-suc 0) (pow_pos j)) r.short
    (lt_of_lt_of_le (shl_lt 24 (e + i + k) r.short) (pow_mono {i = 24 + (e + i + k)} {j = 277} (omega arith)))
    (let a : 2 ^ (e + i + k) ≡ 2 ^ e * 2 ^ i * 2 ^ k = pow-add 2 (e + i) k ∙ ap (λ (x : ℕ). x * 2 ^ k) (pow-add 2 e i) in
    let b : 2 ^ 149 ≡ 2 ^ j * 2 ^ k = ap (λ (x : ℕ). 2 ^ x) (sym s) ∙ pow-add 2 j k in
    ap (λ (x : ℕ). n * 2 ^ e * 2 ^ i * x) b ∙ turn n (2 ^ e) (2 ^ i) (2 ^ j) (2 ^ k) ∙ ap (λ (x : ℕ). n * x * (1 * 2 ^ j)) (sym a))
  where
    turn : (n a b c k : ℕ) → n * a * b * (c * k) ≡ n * (a * b * k) * (1 * c)
    turn n a b c k = simp (mul_assoc, mul_comm, one-mul)
shifted n (negsuc e) i j k r hi s hk =
    let small = down_small n e r.short r.low in
    let l : ℕ = k - suc e in
    let split : k ≡ suc e + l = omega arith in
    round_exact binary32 false (n * 1 * 2 ^ i) (2 ^ suc e * 2 ^ j) n (i + l) (mul-pos (pow_pos (suc e)) (pow_pos j)) r.short
    (lt_of_lt_of_le (shl_lt 24 (i + l) r.short) (pow_mono {i = 24 + (i + l)} {j = 277} (omega arith)))
    (let a : 2 ^ (i + l) ≡ 2 ^ i * 2 ^ l = pow-add 2 i l in
    let b : 2 ^ 149 ≡ 2 ^ j * (2 ^ suc e * 2 ^ l) = ap (λ (x : ℕ). 2 ^ x) (sym s) ∙ pow-add 2 j k ∙ ap (λ (x : ℕ). 2 ^ j * 2 ^ x) split ∙ ap (λ (x : ℕ). 2 ^ j * x) (pow-add 2 (suc e) l) in
    ap (λ (x : ℕ). n * 1 * 2 ^ i * x) b ∙ turn n (2 ^ i) (2 ^ j) (2 ^ suc e) (2 ^ l) ∙ ap (λ (x : ℕ). n * x * (2 ^ suc e * 2 ^ j)) (sym a))
  where
    turn : (n a b c k : ℕ) → n * 1 * a * (b * (c * k)) ≡ n * (a * k) * (c * b)
    turn n a b c k = simp (mul_assoc, mul_comm, mul_left_comm, one-mul)

-- ---- from below

-- p / q is at most x
abbrev Over : ℕ → ℕ → Float → Type 0
Over p q nan = ⊥
Over p q (inf true) = ⊥
Over p q (inf false) = Unit {0}
Over p q (fin true m e) = ⊥
Over p q (fin false m e) = p * down e ≤ m * up e * q

le_over : (y x : Float) (p q : ℕ) → T (positive y) → HasValue y false p q → T (le y x) → T (above x) → Over p q x
le_over y nan p q hy v l a = absurd a
le_over y (inf true) p q hy v l a = absurd a
le_over y (inf false) p q hy v l a = tt
le_over y (fin true m e) p q hy v l a = absurd a
le_over y (fin false zero e) p q hy v l a = absurd a
le_over y (fin false (suc m) e) p q hy v l a =
    through p (num y) (suc m * up e) q (den y) (down e) (den_pos y) (le_of_eq (sym (value→cross y p q v)))
    (le→cross y (fin false (suc m) e) hy (lt→ltb 0 (suc m) (omega arith)) l)

over_round : (a c p q : ℕ) → 0 < c → 0 < q → 0 < p → Exact p q → p * c ≤ a * q → Over p q (round binary32 false a c)
over_round a c p q hc hq hp e h =
    let y = round binary32 false p q in
    let hy = positive_of_value y p q e hp in
    let l = round_mono binary32 p q a c hq hc h in
    le_over y (round binary32 false a c) p q hy e l (above_of_le y (round binary32 false a c) hy l)

numerator : (p q m e : ℕ) → 0 < p → 0 < e → p * e ≤ m * q → 0 < m
numerator p q zero e hp he h = let z = zero-mul q in let k : 0 < p * e = mul-pos hp he in absurd (let no : ⊥ = omega arith in no)
numerator p q (suc m) e hp he h = zero-lt-suc m

max_over : (a m : Float) (p q : ℕ) → 0 < p → Over p q m → Over p q (max_of a m)
unfolding max_of is_nan lt
max_over a m p q hp h = picked (is_nan a) (lt a m) (λ t. t) (λ t. t)
  where
    go : (a m : Float) → Over p q m → T (not (is_nan a)) → T (not (lt a m)) → Over p q a
    go nan m h n l = absurd n
    go (inf true) nan h n l = absurd h
    go (inf true) (inf true) h n l = absurd h
    go (inf true) (inf false) h n l = absurd l
    go (inf true) (fin t k d) h n l = absurd l
    go (inf false) m h n l = tt
    go (fin s k d) nan h n l = absurd h
    go (fin s k d) (inf true) h n l = absurd h
    go (fin s k d) (inf false) h n l = absurd l
    go (fin s k d) (fin true j e) h n l = absurd h
    go (fin true k d) (fin false j e) h n l =
        let z = nltb→le 0 (k * up d * down e + j * up e * down d) l in
        let c : 0 < j * up e * down d = mul-pos (numerator p q (j * up e) (down e) hp (down_pos e) h) (down_pos d) in
        absurd (let no : ⊥ = omega arith in no)
    go (fin false k d) (fin false j e) h n l = through p (j * up e) (k * up d) q (down e) (down d) (down_pos e) h (nltb→le (k * up d * down e) (j * up e * down d) l)

    picked : (b c : Bool) → (T (not b) → T (not (is_nan a))) → (T (not c) → T (not (lt a m))) → Over p q (cond b m (cond c m a))
    picked true c f g = h
    picked false true f g = h
    picked false false f g = go a m h (f tt) (g tt)

-- ---- the curve Inverse

quotient_most : (n : ℕ) (d : ℤ) (x : Float) → 0 < n → Over (n * up d * 1) (down d * 2 ^ 20) x → Most (2 ^ 20) 1 (div binary32 (fin false n d) x)
unfolding div
quotient_most n d nan hn h = absurd h
quotient_most n d (inf true) hn h = absurd h
quotient_most n d (inf false) hn h = omega arith
quotient_most n d (fin true m e) hn h = absurd h
quotient_most n d (fin false zero e) hn h =
    absurd (let c : 0 < 0 * up e = numerator (n * up d * 1) (down d * 2 ^ 20) (0 * up e) (down e) (mul-pos (mul-pos hn (up_pos d)) (zero-lt-suc 0)) (down_pos e) h in let z = zero-mul (up e) in let no : ⊥ = omega arith in no)
quotient_most n d (fin false (suc m) e) hn h =
    rw (ne_eqb (suc m) 0 (λ z. omega arith))
    (most_round (n * up d * down e) (suc m * up e * down d) (2 ^ 20) 1 (mul-pos (mul-pos (zero-lt-suc m) (up_pos e)) (down_pos d)) (zero-lt-suc 0) (pow_pos 20) (exact_power 20 (omega arith))
    (flat (n * up d) (down e) (suc m * up e) (down d) h))
  where
    flat : (x y z w : ℕ) → x * 1 * y ≤ z * (w * 2 ^ 20) → x * y * 1 ≤ 2 ^ 20 * (z * w)
    flat x y z w h =
        let a : x * 1 * y ≡ x * y = ap (λ (k : ℕ). k * y) (mul-one x) in
        let b : z * (w * 2 ^ 20) ≡ 2 ^ 20 * (z * w) = sym (mul_assoc z w (2 ^ 20)) ∙ mul_comm (z * w) (2 ^ 20) in
        omega (arith, h, a, b)

micro_over : (n : ℕ) (d : ℤ) → Reference n d → Over (n * up d * 1) (down d * 2 ^ 20) (mul binary32 micro (fin false n d))
unfolding mul of_bits
micro_over n d r =
    over_round (8796093 * 1 * (n * up d)) (2 ^ 43 * down d) (n * up d * 1) (down d * 2 ^ 20) (mul-pos (pow_pos 43) (down_pos d)) (mul-pos (down_pos d) (pow_pos 20))
    (mul-pos (mul-pos r.some (up_pos d)) (zero-lt-suc 0)) (shifted n d 0 20 129 r (omega arith) refl (omega arith)) (flat (n * up d) (down d))
  where
    flat : (x y : ℕ) → x * 1 * (2 ^ 43 * y) ≤ 8796093 * 1 * x * (y * 2 ^ 20)
    flat x y =
        let a : x * 1 * (2 ^ 43 * y) ≡ 2 ^ 43 * (x * y) = ap (λ (k : ℕ). k * (2 ^ 43 * y)) (mul-one x) ∙ mul_left_comm x (2 ^ 43) y in
        let b : 8796093 * 1 * x * (y * 2 ^ 20) ≡ 8796093 * (x * y) * 2 ^ 20 = sym (mul_assoc (8796093 * x) y (2 ^ 20)) ∙ ap (λ (k : ℕ). k * 2 ^ 20) (mul_assoc 8796093 x y) in
        omega (arith, a, b)

pub inverse_most : (n : ℕ) (d : ℤ) (rolloff at : Float) → Reference n d → Most (2 ^ 20) 1 (inverse_of (fin false n d) rolloff at)
unfolding inverse_of
inverse_most n d rolloff at r =
    quotient_most n d _ r.some
    (max_over _ (mul binary32 micro (fin false n d)) (n * up d * 1) (down d * 2 ^ 20) (mul-pos (mul-pos r.some (up_pos d)) (zero-lt-suc 0)) (micro_over n d r))

-- ---- the gap between two floats

gap_of : (n u b : ℕ) → n < 2 ^ 24 → n < u → n * b ≤ (u * b - n * b) * 2 ^ 24
gap_of n u b hn h =
    let k : ℕ = u - n in
    let e : u ≡ n + k = omega arith in
    let f : u * b ≡ n * b + k * b = ap (λ (x : ℕ). x * b) e ∙ add-mul n k b in
    let g : 1 * b ≤ k * b = mul-le-mul one (le_refl b) in
    let i : n * b ≤ 2 ^ 24 * b = mul-le-mul (le_of_lt hn) (le_refl b) in
    flat (n * b) (u * b) (k * b) b f g i
  where
    one : 1 ≤ u - n
    one = omega arith

    flat : (x y z b : ℕ) → y ≡ x + z → 1 * b ≤ z → x ≤ 2 ^ 24 * b → x ≤ (y - x) * 2 ^ 24
    flat x y z b e g i = omega arith

abbrev ups : ℤ → ℕ
ups (pos e) = e
ups (negsuc e) = 0

abbrev downs : ℤ → ℕ
downs (pos e) = 0
downs (negsuc e) = suc e

up_is : (e : ℤ) → up e ≡ 2 ^ ups e
up_is (pos e) = refl
up_is (negsuc e) = refl

down_is : (e : ℤ) → down e ≡ 2 ^ downs e
down_is (pos e) = refl
down_is (negsuc e) = refl

gap_power : (f n a b : ℕ) → f < 2 ^ 24 → n < 2 ^ 24 → n * 2 ^ b < f * 2 ^ a → n * 2 ^ b ≤ (f * 2 ^ a - n * 2 ^ b) * 2 ^ 24
gap_power f n a b hf hn h = by_order b a (λ l. wide l) (λ l. narrow (le_of_lt l))
  where
    split : (f c b : ℕ) → f * 2 ^ (c + b) ≡ f * 2 ^ c * 2 ^ b
    split f c b = ap (λ (x : ℕ). f * x) (pow-add 2 c b) ∙ sym (mul_assoc f (2 ^ c) (2 ^ b))

    wide : b ≤ a → n * 2 ^ b ≤ (f * 2 ^ a - n * 2 ^ b) * 2 ^ 24
    wide l =
        let c : ℕ = a - b in
        let e : a ≡ c + b = omega arith in
        let x : f * 2 ^ a ≡ f * 2 ^ c * 2 ^ b = ap (λ (k : ℕ). f * 2 ^ k) e ∙ split f c b in
        subst (λ (k : ℕ). n * 2 ^ b ≤ (k - n * 2 ^ b) * 2 ^ 24) (sym x)
        (gap_of n (f * 2 ^ c) (2 ^ b) hn (lt_of_mul-lt-mul_right (2 ^ b) (subst (λ (k : ℕ). n * 2 ^ b < k) x h)))

    narrow : a ≤ b → n * 2 ^ b ≤ (f * 2 ^ a - n * 2 ^ b) * 2 ^ 24
    narrow l =
        let c : ℕ = b - a in
        let e : b ≡ c + a = omega arith in
        let x : n * 2 ^ b ≡ n * 2 ^ c * 2 ^ a = ap (λ (k : ℕ). n * 2 ^ k) e ∙ split n c a in
        let less : n * 2 ^ c < f = lt_of_mul-lt-mul_right (2 ^ a) (subst (λ (k : ℕ). k < f * 2 ^ a) x h) in
        subst (λ (k : ℕ). k ≤ (f * 2 ^ a - k) * 2 ^ 24) (sym x) (gap_of (n * 2 ^ c) f (2 ^ a) (lt_of_lt_of_le less (le_of_lt hf)) less)

gap : (f n : ℕ) (g d : ℤ) → f < 2 ^ 24 → n < 2 ^ 24 → n * up d * down g < f * up g * down d → n * up d * down g ≤ (f * up g * down d - n * up d * down g) * 2 ^ 24
gap f n g d hf hn h =
    let x = scaled f g d in
    let y = scaled n d g in
    subst (λ (k : ℕ). n * up d * down g ≤ (k - n * up d * down g) * 2 ^ 24) (sym x)
    (subst (λ (k : ℕ). k ≤ (f * 2 ^ (ups g + downs d) - k) * 2 ^ 24) (sym y)
    (gap_power f n (ups g + downs d) (ups d + downs g) hf hn (subst (λ (k : ℕ). n * 2 ^ (ups d + downs g) < k) x (subst (λ (k : ℕ). k < f * up g * down d) y h))))
  where
    scaled : (f : ℕ) (g d : ℤ) → f * up g * down d ≡ f * 2 ^ (ups g + downs d)
    scaled f g d =
        mul_assoc f (up g) (down d) ∙ (λ i. f * (up_is g i * down_is d i)) ∙ ap (λ (k : ℕ). f * k) (sym (pow-add 2 (ups g) (downs d)))

-- ---- signs

units_neg : (q k : ℕ) → units binary32 true q k ≡ neg (units binary32 false q k)
unfolding units odd neg
units_neg q k = picked (ltb (q * 2 ^ k) (2 ^ 277)) q
  where
    picked : (b : Bool) (q : ℕ) → cond b (odd 25 true q k 149) (inf true) ≡ neg (cond b (odd 25 false q k 149) (inf false))
    picked true zero = refl
    picked true (suc q) = refl
    picked false q = refl

round_neg : (a c : ℕ) → round binary32 true a c ≡ neg (round binary32 false a c)
unfolding round
round_neg a c =
    let n = a * 2 ^ 149 in
    let k = size (n / c) - 24 in
    let u = c * 2 ^ k in
    units_neg (nearest (n / u) (compare (n % u * 2) u)) k

round_not : (s : Bool) (a c : ℕ) → round binary32 (not s) a c ≡ neg (round binary32 s a c)
round_not false a c = round_neg a c
round_not true a c = sym (neg_neg (round binary32 false a c)) ∙ ap neg (sym (round_neg a c))

unlike_right : (s t : Bool) → unlike s (not t) ≡ not (unlike s t)
unlike_right true true = refl
unlike_right true false = refl
unlike_right false true = refl
unlike_right false false = refl

unlike_left : (s t : Bool) → unlike (not s) t ≡ not (unlike s t)
unlike_left true true = refl
unlike_left true false = refl
unlike_left false true = refl
unlike_left false false = refl

mul_neg : (x y : Float) → mul binary32 x (neg y) ≡ neg (mul binary32 x y)
unfolding mul neg
mul_neg nan y = refl
mul_neg (inf s) nan = refl
mul_neg (inf s) (inf t) = ap inf (unlike_right s t)
mul_neg (inf s) (fin t n d) = picked (eqb n 0)
  where
    picked : (b : Bool) → cond b nan (inf (unlike s (not t))) ≡ neg (cond b nan (inf (unlike s t)))
    picked true = refl
    picked false = ap inf (unlike_right s t)
mul_neg (fin s m e) nan = refl
mul_neg (fin s m e) (inf t) = picked (eqb m 0)
  where
    picked : (b : Bool) → cond b nan (inf (unlike s (not t))) ≡ neg (cond b nan (inf (unlike s t)))
    picked true = refl
    picked false = ap inf (unlike_right s t)
mul_neg (fin s m e) (fin t n d) =
    ap (λ (b : Bool). round binary32 b (m * up e * (n * up d)) (down e * down d)) (unlike_right s t) ∙ round_not (unlike s t) (m * up e * (n * up d)) (down e * down d)

-- by a number above zero
div_neg : (x : Float) (n : ℕ) (d : ℤ) → div binary32 (neg x) (fin false (suc n) d) ≡ neg (div binary32 x (fin false (suc n) d))
unfolding div neg
div_neg nan n d = refl
div_neg (inf s) n d = ap inf (unlike_left s false)
div_neg (fin s m e) n d =
    rw (ne_eqb (suc n) 0 (λ z. omega arith))
    (ap (λ (b : Bool). round binary32 b (m * up e * down d) (suc n * up d * down e)) (unlike_left s false) ∙ round_not (unlike s false) (m * up e * down d) (suc n * up d * down e))

-- ---- the curve Linear

true_not_above : (q k : ℕ) → T (lt zero32 (units binary32 true q k)) → ⊥
unfolding units odd lt of_bits
true_not_above q k h = picked (ltb (q * 2 ^ k) (2 ^ 277)) q h
  where
    picked : (b : Bool) (q : ℕ) → T (lt (fin false 0 (pos 0)) (cond b (odd 25 true q k 149) (inf true))) → ⊥
    picked true zero h = h
    picked true (suc q) h = h
    picked false q h = h

round_not_above : (a c : ℕ) → T (lt zero32 (round binary32 true a c)) → ⊥
unfolding round
round_not_above a c h =
    let n = a * 2 ^ 149 in
    let k = size (n / c) - 24 in
    let u = c * 2 ^ k in
    true_not_above (nearest (n / u) (compare (n % u * 2) u)) k h

zero_not_above : (x : Float) (s : Bool) (c : ℕ) → 0 < c → HasValue x s 0 c → T (lt zero32 x) → ⊥
unfolding lt of_bits
zero_not_above nan s c hc v h = v
zero_not_above (inf t) s c hc v h = v
zero_not_above (fin true m e) s c hc v h = h
zero_not_above (fin false m e) s c hc v h =
    let l = ltb→lt (0 * 1 * down e) (m * up e * 1) h in
    let z : m * up e * c ≡ 0 = v.1 ∙ zero-mul (down e) in
    let p : 0 < m * up e * c = mul-pos (above_none (m * up e) (0 * 1 * down e) l) hc in
    let no : ⊥ = omega arith in
    no
  where
    above_none : (x y : ℕ) → y < x * 1 → 0 < x
    above_none x y h = omega arith

-- the difference of the same
apart : (f : ℕ) (g : ℤ) (n : ℕ) (d : ℤ) → Reference n d → f < 2 ^ 24 → T (lt zero32 (sub binary32 (fin false f g) (fin false n d))) → Over (n * up d * 1) (down d * 2 ^ 24) (sub binary32 (fin false f g) (fin false n d))
unfolding sub add neg sum
apart f g n d r hf h = picked (ltb (f * up g * down d) (n * up d * down g)) h
  where
    x : ℕ
    x = f * up g * down d

    y : ℕ
    y = n * up d * down g

    c : ℕ
    c = down g * down d

    hc : 0 < down g * down d
    hc = mul-pos (down_pos g) (down_pos d)

    nothing : x - y ≡ 0 → T (lt zero32 (round binary32 false (x - y) c)) → ⊥
    nothing e h =
        zero_not_above (round binary32 false 0 c) false c hc
        (round_exact binary32 false 0 c 0 0 hc (pow_pos 24) (pow_pos 277) (rw (zero-mul (2 ^ 149), zero-mul c)))
        (subst (λ (k : ℕ). T (lt zero32 (round binary32 false k c))) e h)

    flat : (r rd gd z : ℕ) → r * gd ≤ z * 2 ^ 24 → r * 1 * (gd * rd) ≤ z * (rd * 2 ^ 24)
    flat r rd gd z h =
        let a : r * 1 * (gd * rd) ≡ r * gd * rd = ap (λ (k : ℕ). k * (gd * rd)) (mul-one r) ∙ sym (mul_assoc r gd rd) in
        let b : z * (rd * 2 ^ 24) ≡ z * 2 ^ 24 * rd = sym (mul_assoc z rd (2 ^ 24)) ∙ mul_right_comm z rd (2 ^ 24) in
        le_trans (le_of_eq a) (le_trans (mul-le-mul h (le_refl rd)) (le_of_eq (sym b)))

    picked : (t : Bool) → T (lt zero32 (cond t (round binary32 true (y - x) c) (round binary32 (false && ltb y x) (x - y) c))) →
        Over (n * up d * 1) (down d * 2 ^ 24) (cond t (round binary32 true (y - x) c) (round binary32 (false && ltb y x) (x - y) c))
    picked true h = absurd (round_not_above (y - x) c h)
    picked false h =
        by_order x y (λ l. absurd (nothing (omega arith) h))
        (λ l.
        over_round (x - y) c (n * up d * 1) (down d * 2 ^ 24) hc (mul-pos (down_pos d) (pow_pos 24)) (mul-pos (mul-pos r.some (up_pos d)) (zero-lt-suc 0))
        (shifted n d 0 24 125 r (omega arith) refl (omega arith)) (flat (n * up d) (down d) (down g) (x - y) (gap f n g d hf r.short l)))

within : (r rd bd a c : ℕ) → Exact (r * 1) (rd * 1) → 0 < r * 1 → 0 < rd → 0 < bd → a ≤ r * bd → c ≡ bd * rd → Most (r * 1) (rd * 1) (round binary32 false a c)
within r rd bd a c ex hr hrd hbd h e =
    subst (λ (k : ℕ). Most (r * 1) (rd * 1) (round binary32 false a k)) (sym e)
    (most_round a (bd * rd) (r * 1) (rd * 1) (mul-pos hbd hrd) (mul-pos hrd (zero-lt-suc 0)) hr ex
    (le_trans (le_of_eq (ap (λ (k : ℕ). a * k) (mul-one rd))) (le_trans (mul-le-mul h (le_refl rd)) (le_of_eq (mul_assoc r bd rd ∙ ap (λ (k : ℕ). k * (bd * rd)) (sym (mul-one r)))))))

none_more : (u d x : ℕ) → 0 * u * d + x ≤ x
none_more u d x = let a = zero-mul u in let b = zero-mul d in rw (a, b) (omega arith)

-- the difference of two values, where it is above zero, is at least 2 ^ -24 of the lesser
span_over : (far : Float) (n : ℕ) (d : ℤ) → Reference n d → T (fits binary32 far) → T (lt zero32 (sub binary32 far (fin false n d))) → Over (n * up d * 1) (down d * 2 ^ 24) (sub binary32 far (fin false n d))
unfolding sub add neg sum fits lt of_bits
span_over nan n d r f h = absurd h
span_over (inf true) n d r f h = absurd h
span_over (inf false) n d r f h = tt
span_over (fin true zero g) n d r f h = absurd (round_not_above (0 * up g * down d + n * up d * down g) (down g * down d) h)
span_over (fin true (suc m) g) n d r f h = absurd (round_not_above (suc m * up g * down d + n * up d * down g) (down g * down d) h)
span_over (fin false zero g) n d r f h = apart zero g n d r (pow_pos 24) h
span_over (fin false (suc m) g) n d r f h =
    apart (suc m) g n d r
    (ltb→lt (suc m) (2 ^ 24)
    (and_r (eqb (suc m % 2) 1) (ltb (suc m) (2 ^ 24))
    (and_l (eqb (suc m % 2) 1 && ltb (suc m) (2 ^ 24)) (leb (down g) (2 ^ 149))
    (and_l (eqb (suc m % 2) 1 && ltb (suc m) (2 ^ 24) && leb (down g) (2 ^ 149)) (ltb (suc m * up g) (2 ^ 128 * down g)) f))))
    h

-- what is off the reference, where it is below it, is at most the reference
off_split :
    (at : Float) (n : ℕ) (d : ℤ) → Reference n d → NotNegative at →
    NotNegative (sub binary32 at (fin false n d)) ⊎ ((u : Float) × ((sub binary32 at (fin false n d) ≡ neg u) × Most (n * up d * 1) (down d * 1) u))
unfolding sub add neg sum
off_split nan n d r h = inl tt
off_split (inf true) n d r h = absurd h
off_split (inf false) n d r h = inl tt
off_split (fin true (suc m) b) n d r h = absurd h
off_split (fin true zero b) n d r h =
    let a : ℕ = 0 * up b * down d + n * up d * down b in
    let c : ℕ = down b * down d in
    inr (
      round binary32 false a c,
      (
        round_neg a c,
        within (n * up d) (down d) (down b) a c (shifted n d 0 0 149 r (omega arith) refl (omega arith)) (mul-pos (mul-pos r.some (up_pos d)) (zero-lt-suc 0)) (down_pos d) (down_pos b)
            (none_more (up b) (down d) (n * up d * down b)) refl,
      ),
    )
off_split (fin false m b) n d r h = picked (ltb (m * up b * down d) (n * up d * down b))
  where
    less : (x y : ℕ) → x - y ≤ x
    less x y = omega arith

    picked :
        (t : Bool) →
        NotNegative (cond t (round binary32 true (n * up d * down b - m * up b * down d) (down b * down d)) (round binary32 (false && ltb (n * up d * down b) (m * up b * down d)) (m * up b * down d - n * up d * down b) (down b * down d)))
        ⊎ ((u : Float) × ((cond t (round binary32 true (n * up d * down b - m * up b * down d) (down b * down d)) (round binary32 (false && ltb (n * up d * down b) (m * up b * down d)) (m * up b * down d - n * up d * down b) (down b * down d)) ≡ neg u) × Most (n * up d * 1) (down d * 1) u))
    picked true =
        let a : ℕ = n * up d * down b - m * up b * down d in
        let c : ℕ = down b * down d in
        inr (
          round binary32 false a c,
          (
            round_neg a c,
            within (n * up d) (down d) (down b) a c (shifted n d 0 0 149 r (omega arith) refl (omega arith)) (mul-pos (mul-pos r.some (up_pos d)) (zero-lt-suc 0)) (down_pos d) (down_pos b)
                (less (n * up d * down b) (m * up b * down d)) refl,
          ),
        )
    picked false = inl (round_false binary32 (m * up b * down d - n * up d * down b) (down b * down d))

-- the part of the distance to the greatest, where the distance is below the reference
fall_most : (x u : Float) (n : ℕ) (d : ℤ) → Reference n d → Most (2 ^ 20) 1 x → Most (n * up d * 1) (down d * 1) u → Most (n * up d * 2 ^ 20) (down d * 1) (mul binary32 x u)
fall_most x u n d r h g =
    mul_most (2 ^ 20) 1 (n * up d * 1) (down d * 1) (n * up d * 2 ^ 20) (down d * 1) (mul-pos (zero-lt-suc 0) (mul-pos (down_pos d) (zero-lt-suc 0))) (mul-pos (mul-pos r.some (up_pos d)) (pow_pos 20))
    (mul-pos (down_pos d) (zero-lt-suc 0)) (shifted n d 20 0 149 r (omega arith) refl (omega arith)) (flat (n * up d) (down d)) x u h g
  where
    flat : (x y : ℕ) → 2 ^ 20 * (x * 1) * (y * 1) ≤ x * 2 ^ 20 * (1 * (y * 1))
    flat x y =
        let a : 2 ^ 20 * (x * 1) ≡ x * 2 ^ 20 = omega arith in
        let b : 1 * (y * 1) ≡ y * 1 = omega arith in
        le_of_eq (λ i. a i * sym b i)

steep_most :
    (y : Float) (n : ℕ) (d : ℤ) (m : ℕ) (e : ℤ) → Reference n d → Most (n * up d * 2 ^ 20) (down d * 1) y → Over (n * up d * 1) (down d * 2 ^ 24) (fin false (suc m) e) →
    Most (2 ^ 44) 1 (div binary32 y (fin false (suc m) e))
unfolding div
steep_most nan n d m e r h o = tt
steep_most (inf s) n d m e r h o = absurd h
steep_most (fin true (suc k) g) n d m e r h o = absurd h
steep_most (fin true zero g) n d m e r h o =
    rw (ne_eqb (suc m) 0 (λ z. omega arith))
    (round_zero true (0 * up g * down e) (suc m * up e * down g) (2 ^ 44) 1 (none_of (up g) (down e)) (mul-pos (mul-pos (zero-lt-suc m) (up_pos e)) (down_pos g)))
steep_most (fin false k g) n d m e r h o =
    rw (ne_eqb (suc m) 0 (λ z. omega arith))
    (most_round (k * up g * down e) (suc m * up e * down g) (2 ^ 44) 1 (mul-pos (mul-pos (zero-lt-suc m) (up_pos e)) (down_pos g)) (zero-lt-suc 0) (pow_pos 44) (exact_power 44 (omega arith))
    (flat (k * up g) (down g) (n * up d) (down d) (suc m * up e) (down e) (down_pos d) h o))
  where
    flat : (x xd r rd s sd : ℕ) → 0 < rd → x * (rd * 1) ≤ r * 2 ^ 20 * xd → r * 1 * sd ≤ s * (rd * 2 ^ 24) → x * sd * 1 ≤ 2 ^ 44 * (s * xd)
    flat x xd r rd s sd hrd h o =
        let a : x * rd ≤ r * 2 ^ 20 * xd = le_trans (le_of_eq (ap (λ (k : ℕ). x * k) (sym (mul-one rd)))) h in
        let b : r * 2 ^ 20 * sd ≤ s * 2 ^ 44 * rd = lift r sd s rd o in
        let c : x * sd ≤ s * 2 ^ 44 * xd = through x (r * 2 ^ 20) (s * 2 ^ 44) xd rd sd hrd a b in
        le_trans (le_of_eq (mul-one (x * sd))) (le_trans c (le_of_eq (ap (λ (k : ℕ). k * xd) (mul_comm s (2 ^ 44)) ∙ mul_assoc (2 ^ 44) s xd)))
      where
        lift : (r sd s rd : ℕ) → r * 1 * sd ≤ s * (rd * 2 ^ 24) → r * 2 ^ 20 * sd ≤ s * 2 ^ 44 * rd
        lift r sd s rd o =
            let a : r * 2 ^ 20 * sd ≡ r * sd * 2 ^ 20 = mul_right_comm r (2 ^ 20) sd in
            let b : s * 2 ^ 44 * rd ≡ s * rd * 2 ^ 44 = mul_right_comm s (2 ^ 44) rd in
            let c : r * 1 * sd ≡ r * sd = ap (λ (k : ℕ). k * sd) (mul-one r) in
            let e : s * (rd * 2 ^ 24) ≡ s * rd * 2 ^ 24 = sym (mul_assoc s rd (2 ^ 24)) in
            omega (arith, o, a, b, c, e)

min_unit : (q : Float) → NotNegative q → Most 1 1 (min_of q one32)
unfolding min_of
min_unit q h = picked (is_nan q) (lt one32 q) (λ t. t)
  where
    picked : (a b : Bool) → (T (not b) → T (not (lt one32 q))) → Most 1 1 (cond a one32 (cond b one32 q))
    picked true b f = one_most
    picked false true f = one_most
    picked false false f = unit_most q h (f tt)

from_one : (q : Float) → NotNegative q → Most (2 ^ 45) 1 (sub binary32 one32 (min_of q one32))
unfolding of_bits
from_one q h = most_more 1 1 (2 ^ 45) 1 (zero-lt-suc 0) (omega arith) (sub binary32 one32 (min_of q one32)) (less_most 1 (min_of q one32) (zero-lt-suc 0) (exact_power 0 (zero-lt-suc 127)) (min_unit q h))

above_one : (w : Float) → Most (2 ^ 44) 1 w → Most (2 ^ 45) 1 (sub binary32 one32 (min_of (neg w) one32))
unfolding neg min_of is_nan lt of_bits sub
above_one nan h = from_one nan tt
above_one (inf s) h = absurd h
above_one (fin true zero e) h = from_one (fin false zero e) tt
above_one (fin true (suc m) e) h = absurd h
above_one (fin false m e) h =
    add_most (2 ^ 44) (2 ^ 44) 1 (pow_pos 45) (zero-lt-suc 0) (exact_power 45 (omega arith)) one32 (fin false m e) (most_more 1 1 (2 ^ 44) 1 (zero-lt-suc 0) (omega arith) one32 one_most) h

-- by a span that is above zero
slope_most :
    (x at span : Float) (n : ℕ) (d : ℤ) → Reference n d → NotNegative x → Most (2 ^ 20) 1 x → NotNegative at → T (is_finite span) → Over (n * up d * 1) (down d * 2 ^ 24) span →
    Most (2 ^ 45) 1 (sub binary32 one32 (min_of (div binary32 (mul binary32 x (sub binary32 at (fin false n d))) span) one32))
unfolding is_finite
slope_most x at nan n d r p h a f o = absurd o
slope_most x at (inf s) n d r p h a f o = absurd f
slope_most x at (fin true zero e) n d r p h a f o = absurd o
slope_most x at (fin true (suc m) e) n d r p h a f o = absurd o
slope_most x at (fin false zero e) n d r p h a f o =
    absurd (let c : 0 < 0 * up e = numerator (n * up d * 1) (down d * 2 ^ 24) (0 * up e) (down e) (mul-pos (mul-pos r.some (up_pos d)) (zero-lt-suc 0)) (down_pos e) o in let z = zero-mul (up e) in let no : ⊥ = omega arith in no)
slope_most x at (fin false (suc m) e) n d r p h a f o =
    ⊎_elim
    (λ v. from_one (div binary32 (mul binary32 x (sub binary32 at (fin false n d))) (fin false (suc m) e)) (div_not_negative binary32 _ m e (mul_not_negative binary32 x _ p v)))
    (λ v.
    let u = v.0 in
    let w : Float = div binary32 (mul binary32 x u) (fin false (suc m) e) in
    let same : div binary32 (mul binary32 x (sub binary32 at (fin false n d))) (fin false (suc m) e) ≡ neg w =
    ap (λ (k : Float). div binary32 (mul binary32 x k) (fin false (suc m) e)) v.1.0 ∙ ap (λ (k : Float). div binary32 k (fin false (suc m) e)) (mul_neg x u) ∙ div_neg (mul binary32 x u) m e in
    subst (λ (k : Float). Most (2 ^ 45) 1 (sub binary32 one32 (min_of k one32))) (sym same)
    (above_one w (steep_most (mul binary32 x u) n d m e r (fall_most x u n d r h v.1.1) o)))
    (off_split at n d r a)

pub linear_most :
    (rolloff at far : Float) (n : ℕ) (d : ℤ) → Reference n d → NotNegative rolloff → Most (2 ^ 20) 1 rolloff → NotNegative at → T (fits binary32 far) →
    Most (2 ^ 45) 1 (linear_of (fin false n d) rolloff at (sub binary32 far (fin false n d)))
unfolding linear_of
linear_most rolloff at far n d r p h a f = picked (is_finite span) (lt zero32 span) (λ t. t) (λ t. t)
  where
    span : Float
    span = sub binary32 far (fin false n d)

    picked :
        (b c : Bool) → (T b → T (is_finite span)) → (T c → T (lt zero32 span)) →
        Most (2 ^ 45) 1 (cond (b && c) (sub binary32 one32 (min_of (div binary32 (mul binary32 rolloff (sub binary32 at (fin false n d))) span) one32)) one32)
    picked true true k g = slope_most rolloff at span n d r p h a (k tt) (span_over far n d r f (g tt))
    picked true false k g = most_more 1 1 (2 ^ 45) 1 (zero-lt-suc 0) (omega arith) one32 one_most
    picked false c k g = most_more 1 1 (2 ^ 45) 1 (zero-lt-suc 0) (omega arith) one32 one_most

-- ---- the model

million : (m : ℕ) (e : ℤ) → T (le (fin false (suc m) e) most_model_number) → suc m * up e ≤ 2 ^ 20 * down e
unfolding of_bits
million m e h =
    let c : suc m * up e * 1 ≤ 15625 * 2 ^ 6 * down e = le→cross (fin false (suc m) e) most_model_number (lt→ltb 0 (suc m) (omega arith)) tt h in
    omega (arith, c)

abbrev Referred : Float → Type 0
Referred r = (n : ℕ) × ((d : ℤ) × ((r ≡ fin false n d) × Reference n d))

one_referred : Referred one32
unfolding of_bits
one_referred = (1, (pos 0, (refl, record { some = omega arith; short = omega arith; low = omega arith; high = omega arith })))

micro_referred : Referred micro
unfolding of_bits
micro_referred = (8796093, (negsuc 42, (refl, record { some = omega arith; short = omega arith; low = omega arith; high = omega arith })))

own_referred : (x : Float) → T (fits binary32 x) → T (is_finite x) → T (not (lt x micro)) → T (le x most_model_number) → Referred x
unfolding is_finite lt fits of_bits
own_referred nan f i l h = absurd i
own_referred (inf s) f i l h = absurd i
own_referred (fin true zero e) f i l h =
    let z = nltb→le 0 (0 * up e * 2 ^ 43 + 8796093 * 1 * down e) l in
    let p = down_pos e in
    absurd (let no : ⊥ = omega arith in no)
own_referred (fin true (suc m) e) f i l h =
    let z = nltb→le 0 (suc m * up e * 2 ^ 43 + 8796093 * 1 * down e) l in
    let p = down_pos e in
    absurd (let no : ⊥ = omega arith in no)
own_referred (fin false zero e) f i l h =
    let z = nltb→le (0 * up e * 2 ^ 43) (8796093 * 1 * down e) l in
    let a = none_of (up e) (2 ^ 43) in
    let p = down_pos e in
    absurd (let no : ⊥ = omega arith in no)
own_referred (fin false (suc m) e) f i l h =
    let z = nltb→le (suc m * up e * 2 ^ 43) (8796093 * 1 * down e) l in (
      suc m,
      (
        e,
        (
          refl,
          record {
            some = zero-lt-suc m;
            short =
                ltb→lt (suc m) (2 ^ 24)
                (and_r (eqb (suc m % 2) 1) (ltb (suc m) (2 ^ 24))
                (and_l (eqb (suc m % 2) 1 && ltb (suc m) (2 ^ 24)) (leb (down e) (2 ^ 149))
                (and_l (eqb (suc m % 2) 1 && ltb (suc m) (2 ^ 24) && leb (down e) (2 ^ 149)) (ltb (suc m * up e) (2 ^ 128 * down e)) f)));
            low = small (suc m * up e) (down e) z;
            high = million m e h;
          },
        ),
      ),
    )
  where
    small : (x d : ℕ) → 8796093 * 1 * d ≤ x * 2 ^ 43 → d ≤ x * 2 ^ 20
    small x d h = omega arith

referred : (x : Float) → T (fits binary32 x) → T (le x most_model_number) → Referred (held_of x micro one32)
unfolding held_of max_of
referred x f h = picked (is_finite x) (is_nan x) (lt x micro) (λ t. t) (λ t. t)
  where
    picked : (a b c : Bool) → (T a → T (is_finite x)) → (T (not c) → T (not (lt x micro))) → Referred (cond a (cond b micro (cond c micro x)) one32)
    picked false b c i l = one_referred
    picked true true c i l = micro_referred
    picked true false true i l = micro_referred
    picked true false false i l = own_referred x f (i tt) (l tt) h

level_most : (x : Float) → T (is_finite x) → NotNegative x → T (le x most_model_number) → Most (2 ^ 20) 1 x
unfolding is_finite
level_most nan i n h = absurd i
level_most (inf s) i n h = absurd i
level_most (fin true zero e) i n h = tt
level_most (fin true (suc m) e) i n h = absurd n
level_most (fin false zero e) i n h = none e (2 ^ 20) 1
level_most (fin false (suc m) e) i n h = let l = million m e h in omega (arith, l)

rolloff_most : (x : Float) → T (le x most_model_number) → Most (2 ^ 20) 1 (held_of x zero32 one32)
unfolding held_of max_of
rolloff_most x h = picked (is_finite x) (is_nan x) (lt x zero32) (λ t. t) (λ t. t)
  where
    picked : (a b c : Bool) → (T a → T (is_finite x)) → (T (not c) → T (not (lt x zero32))) → Most (2 ^ 20) 1 (cond a (cond b zero32 (cond c zero32 x)) one32)
    picked false b c i l = most_more 1 1 (2 ^ 20) 1 (zero-lt-suc 0) (omega arith) one32 one_most
    picked true true c i l = zero_is_most (2 ^ 20) 1
    picked true false true i l = zero_is_most (2 ^ 20) 1
    picked true false false i l = level_most x (i tt) (not_below x (l tt)) h

most_level : (p q : ℕ) (x : Float) → Most p q x → NotNegative x
most_level p q nan h = tt
most_level p q (inf s) h = absurd h
most_level p q (fin true zero e) h = tt
most_level p q (fin true (suc m) e) h = absurd h
most_level p q (fin false m e) h = tt

zero_finite : T (is_finite zero32)
unfolding is_finite of_bits
zero_finite = tt

held_finite : (x : Float) → T (is_finite (held_of x zero32 zero32))
unfolding held_of max_of
held_finite x = picked (is_finite x) (is_nan x) (lt x zero32) (λ t. t)
  where
    picked : (a b c : Bool) → (T a → T (is_finite x)) → T (is_finite (cond a (cond b zero32 (cond c zero32 x)) zero32))
    picked false b c i = zero_finite
    picked true true c i = zero_finite
    picked true false true i = zero_finite
    picked true false false i = i tt

held_fits : (x : Float) → T (fits binary32 x) → T (fits binary32 (held_of x zero32 zero32))
unfolding held_of max_of
held_fits x h =
    let z = of_bits-fits binary32 0 in
    cond-fits binary32 (is_finite x) (cond (is_nan x) zero32 (cond (lt x zero32) zero32 x)) zero32
    (cond-fits binary32 (is_nan x) zero32 (cond (lt x zero32) zero32 x) z (cond-fits binary32 (lt x zero32) zero32 x z h)) z

held_most : (p q : ℕ) (x : Float) → Most p q x → Most p q (held_of x zero32 zero32)
unfolding held_of max_of
held_most p q x h = picked (is_finite x) (is_nan x) (lt x zero32)
  where
    picked : (a b c : Bool) → Most p q (cond a (cond b zero32 (cond c zero32 x)) zero32)
    picked false b c = zero_is_most p q
    picked true true c = zero_is_most p q
    picked true false true = zero_is_most p q
    picked true false false = h

max_level : (a b : Float) → NotNegative b → T (is_finite b) → NotNegative (max_of a b)
unfolding max_of is_nan lt is_finite
max_level a b h f = picked (is_nan a) (lt a b) (λ t. t)
  where
    go : (a b : Float) → NotNegative b → T (is_finite b) → T (not (lt a b)) → NotNegative a
    go nan b h f l = tt
    go (inf true) nan h f l = absurd f
    go (inf true) (inf t) h f l = absurd f
    go (inf true) (fin t n d) h f l = absurd l
    go (inf false) b h f l = tt
    go (fin false m e) b h f l = tt
    go (fin true zero e) b h f l = tt
    go (fin true (suc m) e) nan h f l = absurd f
    go (fin true (suc m) e) (inf t) h f l = absurd f
    go (fin true (suc m) e) (fin true (suc n) d) h f l = absurd h
    go (fin true (suc m) e) (fin true zero d) h f l =
        let z = nltb→le (0 * up d * down e) (suc m * up e * down d) l in
        let a = none_of (up d) (down e) in
        let p : 0 < suc m * up e * down d = mul-pos (mul-pos (zero-lt-suc m) (up_pos e)) (down_pos d) in
        let no : ⊥ = omega arith in
        no
    go (fin true (suc m) e) (fin false n d) h f l =
        let z = nltb→le 0 (suc m * up e * down d + n * up d * down e) l in
        let p : 0 < suc m * up e * down d = mul-pos (mul-pos (zero-lt-suc m) (up_pos e)) (down_pos d) in
        let no : ⊥ = omega arith in
        no

    picked : (x y : Bool) → (T (not y) → T (not (lt a b))) → NotNegative (cond x b (cond y b a))
    picked true y l = h
    picked false true l = h
    picked false false l = go a b h f (l tt)

min_level : (a b : Float) → NotNegative a → NotNegative b → NotNegative (min_of a b)
unfolding min_of
min_level a b h g = picked (is_nan a) (lt b a)
  where
    picked : (x y : Bool) → NotNegative (cond x b (cond y b a))
    picked true y = g
    picked false true = g
    picked false false = h

module _ (m : DistanceModel) (distance : Float) (limits : T (model_numbers_of m)) (f : ModelFits m) where
  abbrev near : Float
  near = held_of m.min_distance zero32 zero32

  abbrev far : Float
  far = furthest_of m.max_distance near

  abbrev rolloff : Float
  rolloff = held_of m.rolloff_factor zero32 one32

  far_level : NotNegative far
  unfolding furthest_of of_bits
  far_level = picked (is_nan m.max_distance)
    where
      picked : (b : Bool) → NotNegative (cond b (of_bits binary32 0x7f7f_ffff) (max_of m.max_distance near))
      picked true = tt
      picked false = max_level m.max_distance near (held_not_negative m.min_distance) (held_finite m.min_distance)

  far_fits : T (fits binary32 far)
  unfolding furthest_of max_of
  far_fits =
      let h = held_fits m.min_distance f.least in
      let x = m.max_distance in
      cond-fits binary32 (is_nan x) (of_bits binary32 0x7f7f_ffff) (cond (is_nan x) near (cond (lt x near) near x)) (of_bits-fits binary32 0x7f7f_ffff)
      (cond-fits binary32 (is_nan x) near (cond (lt x near) near x) h (cond-fits binary32 (lt x near) near x h f.greatest))

  at_level : NotNegative (between_of distance near far)
  unfolding between_of
  at_level = picked (is_nan distance)
    where
      picked : (b : Bool) → NotNegative (cond b near (min_of (max_of distance near) far))
      picked true = held_not_negative m.min_distance
      picked false = min_level (max_of distance near) far (max_level distance near (held_not_negative m.min_distance) (held_finite m.min_distance)) far_level

  curve_most : (c : DistanceCurve) (r : Float) → Referred r → Most (2 ^ 20) 1 rolloff → Most (2 ^ 45) 1 (curve_of c r rolloff (between_of distance near far) far)
  unfolding curve_of
  curve_most Inverse r k h =
      subst (λ (x : Float). Most (2 ^ 45) 1 (inverse_of x rolloff (between_of distance near far))) (sym k.1.1.0)
      (most_more (2 ^ 20) 1 (2 ^ 45) 1 (zero-lt-suc 0) (omega arith) (inverse_of (fin false k.0 k.1.0) rolloff (between_of distance near far)) (inverse_most k.0 k.1.0 rolloff (between_of distance near far) k.1.1.1))
  curve_most Linear r k h =
      subst (λ (x : Float). Most (2 ^ 45) 1 (linear_of x rolloff (between_of distance near far) (sub binary32 far x))) (sym k.1.1.0)
      (linear_most rolloff (between_of distance near far) far k.0 k.1.0 k.1.1.1 (most_level (2 ^ 20) 1 rolloff h) h at_level far_fits)

  pub gain_most : Most (2 ^ 47) 1 (gain_of m distance)
  unfolding gain_of model_numbers_of model_number_of scene_limits.between_of
  gain_most =
      let ref = m.reference_distance in
      let ro = m.rolloff_factor in
      let least = m.min_distance in
      let most = m.max_distance in
      let b : Float → Bool = λ x. le zero32 x && le x most_model_number in
      let one = and_l (b ref) (b ro && (b least && b most)) limits in
      let two = and_l (b ro) (b least && b most) (and_r (b ref) (b ro && (b least && b most)) limits) in
      let r = held_of ref micro one32 in
      let k = referred ref f.reference (and_r (le zero32 ref) (le ref most_model_number) one) in
      let h = rolloff_most ro (and_r (le zero32 ro) (le ro most_model_number) two) in
      let c = curve_of m.curve r rolloff (between_of distance near far) far in
      most_more (2 ^ 45) 1 (2 ^ 47) 1 (zero-lt-suc 0) (omega arith) (held_of c zero32 zero32) (held_most (2 ^ 45) 1 c (curve_most m.curve r k h))
