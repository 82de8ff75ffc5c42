-- Where a float is not below zero (a NaN is not): what arithmetic keeps so.
use mathlib.Core.Path.{◌≡◌}
use mathlib.Core.Bool.{Bool, true, false, not, cond, ◌&&◌, true≢false}
use Prim.Native.Nat.{ℕ, zero, suc, ◌+◌, ◌-◌, ◌*◌, ◌/◌, ◌%◌, ◌^◌, ◌<◌, ◌≤◌, compare}
use native.Mathlib.Nat.{mul-pos, zero-lt-suc, zero-mul, mul-zero}
use native.Mathlib.Omega.{arith}
use borrow.Author.Tests.{le-ltb, ne_eqb}
use lib.Dec.{T, ltb, eqb, nltb→le}
use lib.IntN.{ℤ}
use lib.Pow.{pow_pos}
use lib.Ieee.{Float, nan, inf, fin, Format, binary32, prec, emax, low, size, nearest, up, down, unlike, odd, units, round, sum, add, mul, div, lt, is_nan, of_bits}
use lib.Ieee.Fits.{up_pos, down_pos}
use lib.Ieee.Exact.{HasValue, round_exact}
use Rattle.float.specs.Literals.{zero32, one32}
use Rattle.float.specs.Compare.{max_of, clamp_of, is_finite}
use Rattle.float.specs.Sqrt.{isqrt, root_of, sqrt_of}
use Rattle.bands.specs.Distance.{held_of}

abbrev pub NotNegative : Float → Type 0
NotNegative nan = Unit {0}
NotNegative (inf true) = ⊥
NotNegative (inf false) = Unit {0}
NotNegative (fin true zero e) = Unit {0}
NotNegative (fin true (suc m) e) = ⊥
NotNegative (fin false m e) = Unit {0}

-- a value of the sign + is not negative
pub value_not_negative : (x : Float) (a c : ℕ) → HasValue x false a c → NotNegative x
value_not_negative nan a c v = tt
value_not_negative (inf s) a c v = absurd v
value_not_negative (fin true m e) a c v = absurd (true≢false v.0)
value_not_negative (fin false m e) a c v = tt

none_of : (a b : ℕ) → 0 * a * b ≡ 0
none_of a b = rw (zero-mul a, zero-mul b)

-- ---- a rounded number

odd_false : (d q k l : ℕ) → NotNegative (odd d false q k l)
unfolding odd
odd_false d zero k l = tt
odd_false d (suc q) k l = tt

module _ (f : Format) where
  units_false : (q k : ℕ) → NotNegative (units f false q k)
  unfolding units
  units_false q k = picked (ltb (q * 2 ^ k) (2 ^ (low f + suc (emax f)))) where
    picked : (b : Bool) → NotNegative (cond b (odd (suc (prec f)) false q k (low f)) (inf false))
    picked true = odd_false (suc (prec f)) q k (low f)
    picked false = tt

  pub round_false : (a c : ℕ) → NotNegative (round f false a c)
  unfolding round
  round_false a c =
      let n = a * 2 ^ low f in
      let k = size (n / c) - prec f in
      let u = c * 2 ^ k in
      units_false (nearest (n / u) (compare (n % u * 2) u)) k

  zero_value : (x : Float) (s : Bool) (c : ℕ) → 0 < c → HasValue x s 0 c → NotNegative x
  zero_value nan s c some h = tt
  zero_value (inf true) s c some h = h
  zero_value (inf false) s c some h = tt
  zero_value (fin false m e) s c some h = tt
  zero_value (fin true zero e) s c some h = tt
  zero_value (fin true (suc m) e) s c some h =
      let p : 0 < suc m * up e * c = mul-pos (mul-pos (zero-lt-suc m) (up_pos e)) some in
      let z : 0 * down e ≡ 0 = zero-mul (down e) in
      let g : suc m * up e * c ≡ 0 * down e = h.1 in
      let no : ⊥ = omega arith in
      no

  round_zero : (s : Bool) (a c : ℕ) → a ≡ 0 → 0 < c → NotNegative (round f s a c)
  round_zero s a c e some =
      rw e
      (zero_value (round f s 0 c) s c some
      (round_exact f s 0 c 0 0 some (pow_pos (prec f)) (pow_pos (low f + suc (emax f))) (rw (zero-mul (2 ^ low f), zero-mul c))))

  -- ---- products

  pub mul_not_negative : (x y : Float) → NotNegative x → NotNegative y → NotNegative (mul f x y)
  unfolding mul
  mul_not_negative nan y p q = tt
  mul_not_negative (inf true) y p q = absurd p
  mul_not_negative (inf false) nan p q = tt
  mul_not_negative (inf false) (inf true) p q = absurd q
  mul_not_negative (inf false) (inf false) p q = tt
  mul_not_negative (inf false) (fin true zero d) p q = tt
  mul_not_negative (inf false) (fin true (suc n) d) p q = absurd q
  mul_not_negative (inf false) (fin false zero d) p q = tt
  mul_not_negative (inf false) (fin false (suc n) d) p q = rw (ne_eqb (suc n) 0 (λ z. omega arith)) tt
  mul_not_negative (fin true (suc m) e) y p q = absurd p
  mul_not_negative (fin true zero e) nan p q = tt
  mul_not_negative (fin true zero e) (inf true) p q = absurd q
  mul_not_negative (fin true zero e) (inf false) p q = tt
  mul_not_negative (fin true zero e) (fin t n d) p q =
      round_zero (unlike true t) (0 * up e * (n * up d)) (down e * down d) (none_of (up e) (n * up d)) (mul-pos (down_pos e) (down_pos d))
  mul_not_negative (fin false m e) nan p q = tt
  mul_not_negative (fin false m e) (inf true) p q = absurd q
  mul_not_negative (fin false zero e) (inf false) p q = tt
  mul_not_negative (fin false (suc m) e) (inf false) p q = rw (ne_eqb (suc m) 0 (λ z. omega arith)) tt
  mul_not_negative (fin false m e) (fin false n d) p q = round_false (m * up e * (n * up d)) (down e * down d)
  mul_not_negative (fin false m e) (fin true zero d) p q =
      round_zero (unlike false true) (m * up e * (0 * up d)) (down e * down d) (rw (zero-mul (up d), mul-zero (m * up e))) (mul-pos (down_pos e) (down_pos d))
  mul_not_negative (fin false m e) (fin true (suc n) d) p q = absurd q

  -- ---- sums

  lesser : (a b c : ℕ) → b ≡ 0 → NotNegative (cond (ltb a b) (round f true (b - a) c) (round f (false && ltb b a) (a - b) c))
  lesser a b c e = let l : b ≤ a = omega arith in rw (le-ltb a b l) (round_false (a - b) c)

  greater : (a b c : ℕ) → a ≡ 0 → (t : Bool) → NotNegative (cond t (round f false (b - a) c) (round f (true && ltb b a) (a - b) c))
  greater a b c e true = round_false (b - a) c
  greater a b c e false = let l : a ≤ b = omega arith in rw (le-ltb b a l) (round_false (a - b) c)

  pub add_not_negative : (x y : Float) → NotNegative x → NotNegative y → NotNegative (add f x y)
  unfolding add sum
  add_not_negative nan y p q = tt
  add_not_negative (inf true) y p q = absurd p
  add_not_negative (inf false) nan p q = tt
  add_not_negative (inf false) (inf true) p q = absurd q
  add_not_negative (inf false) (inf false) p q = tt
  add_not_negative (inf false) (fin t n d) p q = tt
  add_not_negative (fin true (suc m) e) y p q = absurd p
  add_not_negative (fin true zero e) nan p q = tt
  add_not_negative (fin true zero e) (inf true) p q = absurd q
  add_not_negative (fin true zero e) (inf false) p q = tt
  add_not_negative (fin true zero e) (fin true (suc n) d) p q = absurd q
  add_not_negative (fin false m e) nan p q = tt
  add_not_negative (fin false m e) (inf true) p q = absurd q
  add_not_negative (fin false m e) (inf false) p q = tt
  add_not_negative (fin false m e) (fin true (suc n) d) p q = absurd q
  add_not_negative (fin false m e) (fin false n d) p q = round_false (m * up e * down d + n * up d * down e) (down e * down d)
  add_not_negative (fin false m e) (fin true zero d) p q = lesser (m * up e * down d) (0 * up d * down e) (down e * down d) (none_of (up d) (down e))
  add_not_negative (fin true zero e) (fin false n d) p q =
      greater (0 * up e * down d) (n * up d * down e) (down e * down d) (none_of (up e) (down d)) (ltb (0 * up e * down d) (n * up d * down e))
  add_not_negative (fin true zero e) (fin true zero d) p q =
      round_zero true (0 * up e * down d + 0 * up d * down e) (down e * down d) (rw (none_of (up e) (down d), none_of (up d) (down e))) (mul-pos (down_pos e) (down_pos d))

  -- ---- a part, and a root

  pub div_not_negative : (x : Float) (n : ℕ) (d : ℤ) → NotNegative x → NotNegative (div f x (fin false (suc n) d))
  unfolding div
  div_not_negative nan n d p = tt
  div_not_negative (inf true) n d p = absurd p
  div_not_negative (inf false) n d p = tt
  div_not_negative (fin true (suc m) e) n d p = absurd p
  div_not_negative (fin true zero e) n d p =
      rw (ne_eqb (suc n) 0 (λ z. omega arith))
      (round_zero (unlike true false) (0 * up e * down d) (suc n * up d * down e) (none_of (up e) (down d)) (mul-pos (mul-pos (zero-lt-suc n) (up_pos d)) (down_pos e)))
  div_not_negative (fin false m e) n d p = rw (ne_eqb (suc n) 0 (λ z. omega arith)) (round_false (m * up e * down d) (suc n * up d * down e))

pub sqrt_not_negative : (x : Float) → NotNegative (sqrt_of x)
unfolding sqrt_of root_of
sqrt_not_negative nan = tt
sqrt_not_negative (inf true) = tt
sqrt_not_negative (inf false) = tt
sqrt_not_negative (fin true zero e) = tt
sqrt_not_negative (fin false zero e) = tt
sqrt_not_negative (fin true (suc m) e) = tt
sqrt_not_negative (fin false (suc m) e) =
    let n = suc m * up e * 2 ^ 298 / down e in
    let q = isqrt 213 n in
    round_false binary32 (q * 2 + cond (eqb (q * q) n) 0 1) (2 ^ 150)

-- ---- held to a range

pub not_below : (x : Float) → T (not (lt x zero32)) → NotNegative x
unfolding lt of_bits
not_below nan h = tt
not_below (inf true) h = absurd h
not_below (inf false) h = tt
not_below (fin false m e) h = tt
not_below (fin true zero e) h = tt
not_below (fin true (suc m) e) h =
    let l : suc m * up e * 1 + 0 * 1 * down e ≤ 0 = nltb→le 0 (suc m * up e * 1 + 0 * 1 * down e) h in
    let p : 0 < suc m * up e = mul-pos (zero-lt-suc m) (up_pos e) in
    let no : ⊥ = omega arith in
    no

pub zero_not_negative : NotNegative zero32
unfolding of_bits
zero_not_negative = tt

pub one_not_negative : NotNegative one32
unfolding of_bits
one_not_negative = tt

pub clamp_not_negative : (x : Float) → NotNegative (clamp_of x zero32 one32)
unfolding clamp_of
clamp_not_negative x = picked (lt x zero32) (lt one32 x) (λ h. h) where
  picked : (a b : Bool) → (T (not a) → T (not (lt x zero32))) → NotNegative (cond a zero32 (cond b one32 x))
  picked true b h = zero_not_negative
  picked false true h = one_not_negative
  picked false false h = not_below x (h tt)

pub held_not_negative : (x : Float) → NotNegative (held_of x zero32 zero32)
unfolding held_of max_of
held_not_negative x = picked (is_finite x) (is_nan x) (lt x zero32) (λ h. h) where
  picked : (a b c : Bool) → (T (not c) → T (not (lt x zero32))) → NotNegative (cond a (cond b zero32 (cond c zero32 x)) zero32)
  picked false b c h = zero_not_negative
  picked true true c h = zero_not_negative
  picked true false true h = zero_not_negative
  picked true false false h = not_below x (h tt)

pub below_none : (x : Float) → NotNegative x → T (not (lt x zero32))
unfolding lt of_bits
below_none nan h = tt
below_none (inf true) h = absurd h
below_none (inf false) h = tt
below_none (fin true (suc m) e) h = absurd h
below_none (fin true zero e) h =
    let z : 0 * up e * 1 + 0 * 1 * down e ≤ 0 = (let a = zero-mul (up e) in let b = zero-mul (down e) in omega arith) in
    rw (le-ltb 0 (0 * up e * 1 + 0 * 1 * down e) z) tt
below_none (fin false m e) h =
    let z : 0 * 1 * down e ≤ m * up e * 1 = (let b = zero-mul (down e) in omega arith) in
    rw (le-ltb (m * up e * 1) (0 * 1 * down e) z) tt
