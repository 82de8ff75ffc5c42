-- A sum is -0 only where both its parts are: so a chain of subtractions from -0 ends at -0 only where all that was taken off is +0. No NaN and no
-- infinity comes back to a number, a number other than 0 never cancels to -0, and no sum of two floats is too small for the format.
use mathlib.Core.Path.{◌≡◌, refl, sym, ap, subst, ◌∙◌}
use mathlib.Core.Bool.{Bool, true, false, not, cond, beq, ◌&&◌}
use Prim.Native.Nat.{ℕ, zero, suc, ◌+◌, ◌-◌, ◌*◌, ◌/◌, ◌%◌, ◌^◌, ◌<◌, ◌≤◌, compare}
use native.Mathlib.Nat.{add-mul, suc-mul, mul-pos, zero-lt-suc, zero-mul, mul-one, one-mul, mul_comm, mul_assoc, mul_right_comm, le_trans, le_of_eq}
use native.Mathlib.Nat.{mul-le-mul_right, mul-lt-mul_of_pos_right, lt_of_mul-lt-mul_right, div-mul-le_self, le-div_iff_mul-le, pow-succ'}
use native.Mathlib.Omega.{arith}
use lib.Dec.{T, ltb, eqb, leb, eqb→eq, leb→le, nleb→lt, ltb→lt}
use lib.Pow.{pow_pos, pow-add, pow-lt}
use lib.IntN.{ℤ, pos, negsuc}
use lib.Ieee.{Float, nan, inf, fin, Format, binary32, prec, low, emax, up, down, size, nearest, odd, units, round, sum, neg, add, sub, fits, is_nan, of_bits}
use lib.Ieee.Digits.{size-lt, size_reaches, back}
use lib.Ieee.Fits.{two, up_pos, down_pos, round_is, and_l, and_r, neg-fits, sub-fits}
use lib.Ieee.Exact.{HasValue, odd_sign}
use lib.Ieee.Nearest.{nearest-ge}
use Rattle.laws.proofs.Numbers.{no_part}
use Rattle.float.specs.Literals.{zero32}
use Rattle.float.proofs.Compare.{neg_neg}

abbrev pub minus_zero : Float
minus_zero = fin true 0 (pos 0)

-- ---- rounding

abbrev IsFin : Float → Type 0
IsFin nan = ⊥
IsFin (inf s) = ⊥
IsFin (fin s m e) = Unit {0}

nan_clash : (t : Bool) → nan ≡ fin t 0 (pos 0) → ⊥
nan_clash t c = subst IsFin (sym c) tt

inf_clash : (s t : Bool) → inf s ≡ fin t 0 (pos 0) → ⊥
inf_clash s t c = subst IsFin (sym c) tt

-- what has a value of 0 has it of no more than 0, and with its sign
value_zero : (x : Float) (s t : Bool) (a c : ℕ) → HasValue x s a c → x ≡ fin t 0 (pos 0) → (t ≡ s) × (a ≡ 0)
value_zero x s t a c v e =
    let w = subst (λ (y : Float). HasValue y s a c) e v in
    (w.0, sym (mul-one a) ∙ sym w.1 ∙ ap (λ (y : ℕ). y * c) (zero-mul 1) ∙ zero-mul c)

-- units that are 0 are none
units_zero : (f : Format) (s t : Bool) (q k : ℕ) → units f s q k ≡ fin t 0 (pos 0) → (t ≡ s) × (q ≡ 0)
unfolding units
units_zero f s t q k e = go (ltb (q * 2 ^ k) (2 ^ (low f + suc (emax f)))) e
  where
    go : (b : Bool) → cond b (odd (suc (prec f)) s q k (low f)) (inf s) ≡ fin t 0 (pos 0) → (t ≡ s) × (q ≡ 0)
    go true c = let v = value_zero (odd (suc (prec f)) s q k (low f)) s t (q * 2 ^ k) (2 ^ low f) (odd_sign (suc (prec f)) s q k (low f)) c in (v.0, no_part q (2 ^ k) (pow_pos k) v.1)
    go false c = absurd (inf_clash s t c)

-- the kept digits of a number above 0 are not all 0
kept_some : (f : Format) (w : ℕ) → 0 < w → 2 ^ (size w - prec f) ≤ w
kept_some f w h = size_reaches w (size w - prec f) (below (size w) (prec f) (some (size w) (λ e. subst (λ (z : ℕ). w < 2 ^ z) e (size-lt w))) (two f))
  where
    some : (z : ℕ) → (z ≡ 0 → w < 1) → 0 < z
    some zero n = let l = n refl in absurd (let no : ⊥ = omega (arith, l, h) in no)
    some (suc z) n = zero-lt-suc z

    below : (z p : ℕ) → 0 < z → 2 ≤ p → z - p < z
    below z p a b = omega arith

-- what is rounded to 0 has its sign, and lies below the format's smallest value
round_null : (f : Format) (s t : Bool) (num den : ℕ) → 0 < den → round f s num den ≡ fin t 0 (pos 0) → (t ≡ s) × (num * 2 ^ low f < den)
round_null f s t num den dp e =
    let n = num * 2 ^ low f in
    let k = size (n / den) - prec f in
    let u = den * 2 ^ k in
    let z = units_zero f s t (nearest (n / u) (compare (n % u * 2) u)) k (sym (round_is f s num den) ∙ e) in
    let g = nearest-ge (n / u) (compare (n % u * 2) u) in
    let less : n / u ≤ 0 = subst (λ (x : ℕ). n / u ≤ x) z.1 g in
    let one : den ≤ n → 0 < n / den = λ l. (le-div_iff_mul-le dp).1 (subst (λ (x : ℕ). x ≤ n) (sym (one-mul den)) l) in
    (z.0, small n den (λ l. some n k u (reaches n den k dp l (kept_some f (n / den) (one l))) (mul-pos dp (pow_pos k)) less))
  where
    reaches : (n den k : ℕ) → 0 < den → den ≤ n → 2 ^ k ≤ n / den → den * 2 ^ k ≤ n
    reaches n den k d l h = le_trans (le_of_eq (mul_comm den (2 ^ k))) (le_trans (mul-le-mul_right den h) (div-mul-le_self n den))

    some : (n k u : ℕ) → u ≤ n → 0 < u → n / u ≤ 0 → ⊥
    some n k u l d h = let one : 1 ≤ n / u = (le-div_iff_mul-le d).1 (subst (λ (x : ℕ). x ≤ n) (sym (one-mul u)) l) in let no : ⊥ = omega (arith, one, h) in no

    small : (n den : ℕ) → (den ≤ n → ⊥) → n < den
    small n den h = go (leb den n) (leb→le den n) (nleb→lt den n)
      where
        go : (b : Bool) → (T b → den ≤ n) → (T (not b) → n < den) → n < den
        go true y o = absurd (h (y tt))
        go false y o = o tt

-- ---- a float in the format's smallest values

abbrev quanta : Format → ℕ → ℤ → ℕ
quanta f m (pos k) = m * 2 ^ k * 2 ^ low f
quanta f m (negsuc k) = m * 1 * 2 ^ (low f - suc k)

fine : (f : Format) (k : ℕ) → 2 ^ suc k ≤ 2 ^ low f → suc k ≤ low f
fine f k h = go (leb (suc k) (low f)) (leb→le (suc k) (low f)) (nleb→lt (suc k) (low f))
  where
    go : (b : Bool) → (T b → suc k ≤ low f) → (T (not b) → low f < suc k) → suc k ≤ low f
    go true y o = y tt
    go false y o = let l : 2 ^ low f < 2 ^ suc k = pow-lt (o tt) in absurd (let no : ⊥ = omega (arith, l, h) in no)

in_quanta : (f : Format) (s : Bool) (m : ℕ) (e : ℤ) → T (fits f (fin s m e)) → m * up e * 2 ^ low f ≡ quanta f m e * down e
unfolding fits
in_quanta f s m (pos k) h = sym (mul-one (m * 2 ^ k * 2 ^ low f))
in_quanta f s zero (negsuc k) h = rw (zero-mul 1, zero-mul (2 ^ low f), zero-mul (2 ^ (low f - suc k)), zero-mul (2 ^ suc k))
in_quanta f s (suc m) (negsuc k) h =
    let A = eqb (suc m % 2) 1 in
    let B = ltb (suc m) (2 ^ prec f) in
    let C = leb (2 ^ suc k) (2 ^ low f) in
    let D = ltb (suc m * 1) (2 ^ suc (emax f) * 2 ^ suc k) in
    let l = leb→le (2 ^ suc k) (2 ^ low f) (and_r (A && B) C (and_l (A && B && C) D h)) in
    let e : 2 ^ low f ≡ 2 ^ (low f - suc k) * 2 ^ suc k = sym (sym (pow-add 2 (low f - suc k) (suc k)) ∙ ap (λ (x : ℕ). 2 ^ x) (back (low f) (suc k) (fine f k l))) in
    ap (λ (x : ℕ). suc m * 1 * x) e ∙ sym (mul_assoc (suc m * 1) (2 ^ (low f - suc k)) (2 ^ suc k))

-- ---- sums

-- of two numbers of whole quanta c / l that differ, the difference is one or more
apart : (a b c l p q : ℕ) → 0 < l → 0 < c → a * l ≡ p * c → b * l ≡ q * c → a < b → c ≤ (b - a) * l
apart a b c l p q hl hc e g h =
    let more : a * l < b * l = mul-lt-mul_of_pos_right h hl in
    let less : p < q = lt_of_mul-lt-mul_right c (subst (λ (x : ℕ). p * c < x) g (subst (λ (x : ℕ). x < b * l) e more)) in
    let next : suc p * c ≤ q * c = mul-le-mul_right c less in
    let one : suc p * c ≡ p * c + c = suc-mul p c in
    let parts : (b - a) * l + a * l ≡ b * l = sym (add-mul (b - a) a l) ∙ ap (λ (x : ℕ). x * l) (whole a b h) in
    omega (arith, more, next, one, parts, e, g)
  where
    whole : (a b : ℕ) → a < b → b - a + a ≡ b
    whole a b h = omega arith

none_apart : (a c l p : ℕ) → 0 < l → 0 < c → a * l ≡ p * c → a * l < c → a ≡ 0
none_apart zero c l p hl hc e h = refl
none_apart (suc a) c l p hl hc e h =
    let d = apart 0 (suc a) c l 0 p hl hc (zero-mul l ∙ sym (zero-mul c)) e (zero-lt-suc a) in
    let all : suc a - 0 ≡ suc a = omega arith in
    let whole = subst (λ (x : ℕ). c ≤ x * l) all d in
    absurd (let no : ⊥ = omega (arith, whole, h) in no)

never : true ≡ false → ⊥
never e = subst T e tt

sum_minus :
    (f : Format) (s t : Bool) (a b c p q : ℕ) → 0 < c → a * 2 ^ low f ≡ p * c → b * 2 ^ low f ≡ q * c →
    sum f s a t b c ≡ minus_zero → (s ≡ true) × (a ≡ 0) × (t ≡ true) × (b ≡ 0)
unfolding sum
sum_minus f true true a b c p q hc e g h =
    let r = round_null f true true (a + b) c hc h in
    let z = none_apart (a + b) c (2 ^ low f) (p + q) (pow_pos (low f)) hc (add-mul a b (2 ^ low f) ∙ rw (e, g) (sym (add-mul p q c))) r.1 in
    (refl, omega (arith, z), refl, omega (arith, z))
sum_minus f false false a b c p q hc e g h = absurd (never (round_null f false true (a + b) c hc h).0)
sum_minus f true false a b c p q hc e g h = absurd (go (ltb a b) (ltb b a) (ltb→lt b a) h)
  where
    go : (u v : Bool) → (T v → b < a) → cond u (round f false (b - a) c) (round f (true && v) (a - b) c) ≡ minus_zero → ⊥
    go true v y k = never (round_null f false true (b - a) c hc k).0
    go false true y k =
        let d = apart b a c (2 ^ low f) q p (pow_pos (low f)) hc g e (y tt) in
        let r = (round_null f true true (a - b) c hc k).1 in
        omega (arith, d, r)
    go false false y k = never (round_null f false true (a - b) c hc k).0
sum_minus f false true a b c p q hc e g h = absurd (go (ltb a b) (ltb→lt a b) h)
  where
    go : (u : Bool) → (T u → a < b) → cond u (round f true (b - a) c) (round f (false && ltb b a) (a - b) c) ≡ minus_zero → ⊥
    go true y k =
        let d = apart a b c (2 ^ low f) p q (pow_pos (low f)) hc e g (y tt) in
        let r = (round_null f true true (b - a) c hc k).1 in
        omega (arith, d, r)
    go false y k = never (round_null f false true (a - b) c hc k).0

-- 2 ^ e is 1 / 1 only for e = 0
plain : (e : ℤ) → up e * down e ≡ 1 → e ≡ pos 0
plain (pos zero) h = refl
plain (pos (suc k)) h = absurd (double (2 ^ suc k) (2 ^ k) (pow-succ' 2 k) (sym (mul-one (2 ^ suc k)) ∙ h))
  where
    double : (x y : ℕ) → x ≡ 2 * y → x ≡ 1 → ⊥
    double x y e h = omega arith
plain (negsuc k) h = absurd (double (2 ^ suc k) (2 ^ k) (pow-succ' 2 k) (sym (one-mul (2 ^ suc k)) ∙ h))
  where
    double : (x y : ℕ) → x ≡ 2 * y → x ≡ 1 → ⊥
    double x y e h = omega arith

is_minus_zero : (f : Format) (s : Bool) (m : ℕ) (e : ℤ) → T (fits f (fin s m e)) → s ≡ true → m ≡ 0 → fin s m e ≡ minus_zero
unfolding fits
is_minus_zero f false m e h g z = absurd (never (sym g))
is_minus_zero f true zero e h g z = ap (λ (d : ℤ). fin true 0 d) (plain e (eqb→eq (up e * down e) 1 h))
is_minus_zero f true (suc m) e h g z = absurd (let no : ⊥ = omega (arith, z) in no)

add_minus : (f : Format) (x y : Float) → T (fits f x) → T (fits f y) → add f x y ≡ minus_zero → (x ≡ minus_zero) × (y ≡ minus_zero)
unfolding add
add_minus f nan y h k e = absurd (nan_clash true e)
add_minus f (inf s) nan h k e = absurd (nan_clash true e)
add_minus f (inf s) (inf t) h k e = absurd (go (beq s t) e)
  where
    go : (b : Bool) → cond b (inf s) nan ≡ minus_zero → ⊥
    go true c = inf_clash s true c
    go false c = nan_clash true c
add_minus f (inf s) (fin t n d) h k e = absurd (inf_clash s true e)
add_minus f (fin s m e) nan h k c = absurd (nan_clash true c)
add_minus f (fin s m e) (inf t) h k c = absurd (inf_clash t true c)
add_minus f (fin s m e) (fin t n d) h k c =
    let L = 2 ^ low f in
    let p = quanta f m e in
    let q = quanta f n d in
    let a : m * up e * down d * L ≡ p * (down e * down d) = mul_right_comm (m * up e) (down d) L ∙ ap (λ (z : ℕ). z * down d) (in_quanta f s m e h) ∙ mul_assoc p (down e) (down d) in
    let b : n * up d * down e * L ≡ q * (down e * down d) = mul_right_comm (n * up d) (down e) L ∙ ap (λ (z : ℕ). z * down e) (in_quanta f t n d k)
    ∙ mul_assoc q (down d) (down e) ∙ ap (λ (z : ℕ). q * z) (mul_comm (down d) (down e)) in
    let r = sum_minus f s t (m * up e * down d) (n * up d * down e) (down e * down d) p q (mul-pos (down_pos e) (down_pos d)) a b c in (
      is_minus_zero f s m e h r.0 (no_part m (up e) (up_pos e) (no_part (m * up e) (down d) (down_pos d) r.1)),
      is_minus_zero f t n d k r.2 (no_part n (up d) (up_pos d) (no_part (n * up d) (down e) (down_pos e) r.3)),
    )

-- ---- a chain of subtractions

neg_zero : neg zero32 ≡ minus_zero
unfolding neg of_bits
neg_zero = refl

neg_minus : neg minus_zero ≡ zero32
unfolding neg of_bits
neg_minus = refl

pub neg_of_zero : (x : Float) → neg x ≡ zero32 → x ≡ minus_zero
neg_of_zero x e = sym (neg_neg x) ∙ ap neg e ∙ neg_zero

pub zero_of_neg : (x : Float) → neg x ≡ minus_zero → x ≡ zero32
zero_of_neg x e = sym (neg_neg x) ∙ ap neg e ∙ neg_minus

pub sub_minus : (x y : Float) → T (fits binary32 x) → T (fits binary32 y) → sub binary32 x y ≡ minus_zero → (x ≡ minus_zero) × (y ≡ zero32)
unfolding sub
sub_minus x y h k e = let r = add_minus binary32 x (neg y) h (neg-fits binary32 y k) e in (r.0, zero_of_neg y r.1)

-- no NaN comes of a number by its sign
pub neg_number : (x : Float) → T (not (is_nan x)) → T (not (is_nan (neg x)))
unfolding neg is_nan
neg_number nan h = h
neg_number (inf s) h = tt
neg_number (fin s m e) h = tt

-- eight, one after the other
pub eight_zero :
    (a b c d e f g h : Float) → T (fits binary32 a) → T (fits binary32 b) → T (fits binary32 c) → T (fits binary32 d) →
    T (fits binary32 e) → T (fits binary32 f) → T (fits binary32 g) → T (fits binary32 h) →
    neg (sub binary32 (sub binary32 (sub binary32 (sub binary32 (sub binary32 (sub binary32 (sub binary32 (neg a) b) c) d) e) f) g) h) ≡ zero32 →
    (a ≡ zero32) × (b ≡ zero32) × (c ≡ zero32) × (d ≡ zero32) × (e ≡ zero32) × (f ≡ zero32) × (g ≡ zero32) × (h ≡ zero32)
eight_zero a b c d e f g h fa fb fc fd fe ff fg fh z =
    let s1 = sub binary32 (neg a) b in
    let s2 = sub binary32 s1 c in
    let s3 = sub binary32 s2 d in
    let s4 = sub binary32 s3 e in
    let s5 = sub binary32 s4 f in
    let s6 = sub binary32 s5 g in
    let r7 = sub_minus s6 h (sub-fits binary32 s5 g) fh (neg_of_zero (sub binary32 s6 h) z) in
    let r6 = sub_minus s5 g (sub-fits binary32 s4 f) fg r7.0 in
    let r5 = sub_minus s4 f (sub-fits binary32 s3 e) ff r6.0 in
    let r4 = sub_minus s3 e (sub-fits binary32 s2 d) fe r5.0 in
    let r3 = sub_minus s2 d (sub-fits binary32 s1 c) fd r4.0 in
    let r2 = sub_minus s1 c (sub-fits binary32 (neg a) b) fc r3.0 in
    let r1 = sub_minus (neg a) b (neg-fits binary32 a fa) fb r2.0 in
    (zero_of_neg a r1.0, r1.1, r2.1, r3.1, r4.1, r5.1, r6.1, r7.1)
