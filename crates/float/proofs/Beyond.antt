-- What is above a number whose root is above `far` has a root above `far` too: a bound for which no further root is taken.
use Prim.Native.Nat.{ℕ, zero, suc, ◌+◌, ◌-◌, ◌*◌, ◌/◌, ◌%◌, ◌^◌, ◌<◌, zero-le, compare}
use mathlib.Core.Path.{◌≡◌, refl, sym, subst}
use mathlib.Core.Bool.{Bool, true, false, not, cond}
use native.Mathlib.Omega.{arith}
use native.Mathlib.Nat.{le_trans, le_of_eq, le_of_lt, mul_right_comm, mul-le-mul_right, mul-lt-mul_of_pos_right, mul-pos, add-mul, zero-mul}
use lib.Dec.{T, ltb, eqb, ltb→lt}
use lib.IntN.{ℤ}
use lib.Ieee.{Float, nan, inf, fin, up, down, binary32, below, lt, le, odd, units, round, size, nearest}
use lib.Ieee.Fits.{down_pos}
use Rattle.float.specs.Sqrt.{isqrt, root_of, sqrt_of}
use Rattle.float.proofs.Keys.{SignedLe, tested→, →tested}
use Rattle.float.proofs.Monotone.{sqrt_mono}

-- ---- three floats are not each below the next

-- ±a < ±b
abbrev SignedLt : Bool → ℕ → Bool → ℕ → Type 0
SignedLt false a false b = a < b
SignedLt false a true b = ⊥
SignedLt true a false b = 0 < a + b
SignedLt true a true b = b < a

below→ : (s : Bool) (a : ℕ) (t : Bool) (b : ℕ) → T (below s a t b) → SignedLt s a t b
below→ false a false b h = ltb→lt a b h
below→ false a true b h = absurd h
below→ true a false b h = ltb→lt 0 (a + b) h
below→ true a true b h = ltb→lt b a h

le_times : (r : ℕ) (s t : Bool) (a b : ℕ) → SignedLe s a t b → SignedLe s (a * r) t (b * r)
le_times r false false a b h = mul-le-mul_right r h
le_times r false true a b h =
    (le_trans (mul-le-mul_right r h.0) (le_of_eq (zero-mul r)), le_trans (mul-le-mul_right r h.1) (le_of_eq (zero-mul r)))
le_times r true false a b h = tt
le_times r true true a b h = mul-le-mul_right r h

lt_times : (r : ℕ) → 0 < r → (s t : Bool) (a b : ℕ) → SignedLt s a t b → SignedLt s (a * r) t (b * r)
lt_times r R false false a b h = mul-lt-mul_of_pos_right h R
lt_times r R false true a b h = absurd h
lt_times r R true false a b h = rw (← add-mul a b r) (mul-pos h R)
lt_times r R true true a b h = mul-lt-mul_of_pos_right h R

no_turn : (s t u : Bool) (a b c : ℕ) → SignedLt s a t b → SignedLe t b u c → SignedLe u c s a → ⊥
no_turn false false false a b c l h k = omega arith
no_turn false false true a b c l h k = omega (arith, h, l)
no_turn false true false a b c l h k = absurd l
no_turn false true true a b c l h k = absurd l
no_turn true false false a b c l h k = let p = k.0 in let q = k.1 in omega arith
no_turn true false true a b c l h k = let p = h.0 in let q = h.1 in omega arith
no_turn true true false a b c l h k = let p = k.0 in let q = k.1 in omega arith
no_turn true true true a b c l h k = omega arith

-- ±x / p, ±y / q, ±z / r
cross_turn :
    (s t u : Bool) (x y z p q r : ℕ) → 0 < r → SignedLt s (x * q) t (y * p) → SignedLe t (y * r) u (z * q) → SignedLe u (z * p) s (x * r) → ⊥
cross_turn s t u x y z p q r R l h k =
    no_turn s t u (x * q * r) (y * p * r) (z * q * p) (lt_times r R s t (x * q) (y * p) l)
    (subst (λ (n : ℕ). SignedLe t n u (z * q * p)) (mul_right_comm y r p) (le_times p t u (y * r) (z * q) h))
    (subst (λ (n : ℕ). SignedLe u n s (x * q * r)) (mul_right_comm z p q)
    (subst (λ (n : ℕ). SignedLe u (z * p * q) s n) (mul_right_comm x r q) (le_times q u s (z * p) (x * r) k)))

pub float_turn : (a b c : Float) → T (lt a b) → T (le b c) → T (le c a) → ⊥
unfolding lt le
float_turn nan b c l h k = l
float_turn (inf s) nan c l h k = l
float_turn (inf false) (inf t) c l h k = l
float_turn (inf true) (inf true) c l h k = l
float_turn (inf true) (inf false) nan l h k = h
float_turn (inf true) (inf false) (inf true) l h k = h
float_turn (inf true) (inf false) (inf false) l h k = k
float_turn (inf true) (inf false) (fin u n g) l h k = h
float_turn (inf false) (fin t n d) c l h k = l
float_turn (inf true) (fin t n d) nan l h k = h
float_turn (inf true) (fin t n d) (inf true) l h k = h
float_turn (inf true) (fin t n d) (inf false) l h k = k
float_turn (inf true) (fin t n d) (fin u o g) l h k = k
float_turn (fin s m e) nan c l h k = l
float_turn (fin s m e) (inf true) c l h k = l
float_turn (fin s m e) (inf false) nan l h k = h
float_turn (fin s m e) (inf false) (inf true) l h k = h
float_turn (fin s m e) (inf false) (inf false) l h k = k
float_turn (fin s m e) (inf false) (fin u o g) l h k = h
float_turn (fin s m e) (fin t n d) nan l h k = h
float_turn (fin s m e) (fin t n d) (inf true) l h k = h
float_turn (fin s m e) (fin t n d) (inf false) l h k = k
float_turn (fin s m e) (fin t n d) (fin u o g) l h k =
    cross_turn s t u (m * up e) (n * up d) (o * up g) (down e) (down d) (down g) (down_pos g)
    (below→ s (m * up e * down d) t (n * up d * down e) l) (tested→ t (n * up d * down g) u (o * up g * down d) h)
    (tested→ u (o * up g * down e) s (m * up e * down g) k)

-- ---- a root is not below zero

abbrev Rooted : Float → Type 0
Rooted nan = ⊥
Rooted (inf s) = T (not s)
Rooted (fin s m e) = T (not s)

odd_rooted : (d q k l : ℕ) → Rooted (odd d false q k l)
unfolding odd
odd_rooted d zero k l = tt
odd_rooted d (suc q) k l = tt

units_rooted : (q k : ℕ) → Rooted (units binary32 false q k)
unfolding units
units_rooted q k = picked (ltb (q * 2 ^ k) (2 ^ 277)) where
  picked : (b : Bool) → Rooted (cond b (odd 25 false q k 149) (inf false))
  picked true = odd_rooted 25 q k 149
  picked false = tt

round_rooted : (a c : ℕ) → Rooted (round binary32 false a c)
unfolding round
round_rooted a c =
    let n = a * 2 ^ 149 in
    let k = size (n / c) - 24 in
    let u = c * 2 ^ k in
    units_rooted (nearest (n / u) (compare (n % u * 2) u)) k

root_rooted : (n : ℕ) → Rooted (root_of n)
unfolding root_of
root_rooted n = let q = isqrt 213 n in round_rooted (q * 2 + cond (eqb (q * q) n) 0 1) (2 ^ 150)

rooted_high : (y : Float) → Rooted y → T (le y (inf false))
unfolding le
rooted_high nan h = h
rooted_high (inf true) h = tt
rooted_high (inf false) h = tt
rooted_high (fin s m e) h = tt

nothing : (a b : ℕ) → 0 * a * b ≡ 0
nothing a b = rw (zero-mul a, zero-mul b)

rooted_low : (s : Bool) (e : ℤ) (y : Float) → Rooted y → T (le (fin s zero e) y)
unfolding le
rooted_low s e nan h = h
rooted_low s e (inf true) h = h
rooted_low s e (inf false) h = tt
rooted_low s e (fin true n d) h = absurd h
rooted_low false e (fin false n d) h =
    →tested false (0 * up e * down d) false (n * up d * down e) (let a = nothing (up e) (down d) in le_trans (le_of_eq a) zero-le)
rooted_low true e (fin false n d) h = →tested true (0 * up e * down d) false (n * up d * down e) tt

-- ---- the bound

no_nan : (x : Float) → T (lt x nan) → ⊥
unfolding lt
no_nan nan h = h
no_nan (inf s) h = h
no_nan (fin s m e) h = h

-- with a root above another, a number above has a root that is no less
roots_le : (far b x : Float) → T (lt far (sqrt_of b)) → T (lt b x) → T (le (sqrt_of b) (sqrt_of x))
unfolding sqrt_of lt
roots_le far nan x l h = absurd h
roots_le far (inf true) x l h = absurd (no_nan far l)
roots_le far (inf false) nan l h = absurd h
roots_le far (inf false) (inf t) l h = absurd h
roots_le far (inf false) (fin t n d) l h = absurd h
roots_le far (fin true (suc m) e) x l h = absurd (no_nan far l)
roots_le far (fin s zero e) nan l h = absurd h
roots_le far (fin s zero e) (inf true) l h = absurd h
roots_le far (fin s zero e) (inf false) l h = rooted_low s e (inf false) tt
roots_le far (fin false zero e) (fin true n d) l h = absurd h
roots_le far (fin true zero e) (fin true n d) l h =
    let k = ltb→lt (n * up d * down e) (0 * up e * down d) h in
    let z = nothing (up e) (down d) in
    absurd (let no : ⊥ = omega arith in no)
roots_le far (fin false zero e) (fin false zero d) l h =
    let k = ltb→lt (0 * up e * down d) (0 * up d * down e) h in
    let z = nothing (up d) (down e) in
    absurd (let no : ⊥ = omega arith in no)
roots_le far (fin true zero e) (fin false zero d) l h =
    let k = ltb→lt 0 (0 * up e * down d + 0 * up d * down e) h in
    let y = nothing (up e) (down d) in
    let z = nothing (up d) (down e) in
    absurd (let no : ⊥ = omega arith in no)
roots_le far (fin s zero e) (fin false (suc n) d) l h = rooted_low s e (root_of (suc n * up d * 2 ^ 298 / down d)) (root_rooted (suc n * up d * 2 ^ 298 / down d))
roots_le far (fin false (suc m) e) nan l h = absurd h
roots_le far (fin false (suc m) e) (inf true) l h = absurd h
roots_le far (fin false (suc m) e) (inf false) l h = rooted_high (root_of (suc m * up e * 2 ^ 298 / down e)) (root_rooted (suc m * up e * 2 ^ 298 / down e))
roots_le far (fin false (suc m) e) (fin true n d) l h = absurd h
roots_le far (fin false (suc m) e) (fin false zero d) l h =
    let k = ltb→lt (suc m * up e * down d) (0 * up d * down e) h in
    let z = nothing (up d) (down e) in
    absurd (let no : ⊥ = omega arith in no)
roots_le far (fin false (suc m) e) (fin false (suc n) d) l h = sqrt_mono m n e d (le_of_lt (ltb→lt (suc m * up e * down d) (suc n * up d * down e) h))

is_true : (b : Bool) → b ≡ true → T b
is_true b e = subst T (sym e) tt

refuted : (b : Bool) → (T b → ⊥) → b ≡ false
refuted true h = absurd (h tt)
refuted false h = refl

pub root_beyond : (far b x : Float) → lt far (sqrt_of b) ≡ true → lt b x ≡ true → le (sqrt_of x) far ≡ false
root_beyond far b x l h =
    let a = is_true (lt far (sqrt_of b)) l in
    refuted (le (sqrt_of x) far) (λ k. float_turn far (sqrt_of b) (sqrt_of x) a (roots_le far b x a (is_true (lt b x) h)) k)

-- nothing is above the infinity
pub none_beyond : (far x : Float) → lt (inf false) x ≡ true → le (sqrt_of x) far ≡ false
unfolding lt
none_beyond far nan h = absurd (is_true false h)
none_beyond far (inf t) h = absurd (is_true false h)
none_beyond far (fin t n d) h = absurd (is_true false h)
