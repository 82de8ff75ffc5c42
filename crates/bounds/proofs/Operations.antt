-- The size of a sum and of a quotient, and of a float that passed a test of its size.
use mathlib.Core.Path.{◌≡◌, refl, sym, ap, subst}
use mathlib.Core.Bool.{Bool, true, false, cond, not, ◌&&◌, beq, true≢false}
use Prim.Native.Nat.{ℕ, ◌+◌, ◌-◌, ◌*◌, ◌^◌, ◌≤◌, ◌<◌, zero-le}
use native.Mathlib.Nat.{le_trans, le_of_eq, mul-one, mul-pos, mul_assoc, mul_comm, mul-le-mul_right, add-mul, one-mul, zero-mul}
use native.Mathlib.Omega.{arith}
use lib.Dec.{T, ltb, eqb, ltb→lt, nltb→le, eqb→eq}
use lib.IntN.{ℤ, pos}
use lib.Ieee.{Float, nan, inf, fin, binary32, up, down, round, sum, add, div, neg, unlike, lt, eq, of_bits}
use lib.Ieee.Fits.{down_pos, and_l}
use Rattle.float.specs.Compare.{abs_of, is_finite}
use Rattle.bounds.specs.Bounds.{Within}
use Rattle.bounds.proofs.Rounded.{round_within}

pub within_finite : (b : ℕ) (x : Float) → Within b x → is_finite x ≡ true
unfolding Within is_finite
within_finite b nan h = absurd h
within_finite b (inf s) h = absurd h
within_finite b (fin s m e) h = refl

pub within_more : (a b : ℕ) (x : Float) → a ≤ b → Within a x → Within b x
unfolding Within
within_more a b nan l h = h
within_more a b (inf s) l h = h
within_more a b (fin s m e) l h = le_trans h (mul-le-mul_right (down e) l)

-- a part of a sum, over the common divisor
scaled : (m u a d c : ℕ) → m * u ≤ a * d → m * u * c ≤ a * (d * c)
scaled m u a d c h = le_trans (mul-le-mul_right c h) (le_of_eq (mul_assoc a d c))

turned : (n u b d c : ℕ) → n * u ≤ b * d → n * u * c ≤ b * (c * d)
turned n u b d c h = le_trans (scaled n u b d c h) (le_of_eq (ap (λ (z : ℕ). b * z) (mul_comm d c)))

sum_within :
    (b : ℕ) (s : Bool) (x : ℕ) (t : Bool) (y c : ℕ) (p q : Bool) → b ≤ 2 ^ 24 → 0 < c → x + y ≤ b * c →
    Within b (cond p (round binary32 s (x + y) c) (cond q (round binary32 t (y - x) c) (round binary32 (s && ltb y x) (x - y) c)))
sum_within b s x t y c true q small some h = round_within b s (x + y) c small some h
sum_within b s x t y c false true small some h = round_within b t (y - x) c small some (omega arith)
sum_within b s x t y c false false small some h = round_within b (s && ltb y x) (x - y) c small some (omega arith)

pub add_within : (a b : ℕ) (x y : Float) → a + b ≤ 2 ^ 24 → Within a x → Within b y → Within (a + b) (add binary32 x y)
unfolding Within add sum
add_within a b nan y small h k = absurd h
add_within a b (inf s) y small h k = absurd h
add_within a b (fin s m e) nan small h k = absurd k
add_within a b (fin s m e) (inf t) small h k = absurd k
add_within a b (fin s m e) (fin t n d) small h k =
    let c = down e * down d in
    let x : m * up e * down d ≤ a * c = scaled m (up e) a (down e) (down d) h in
    let y : n * up d * down e ≤ b * c = turned n (up d) b (down d) (down e) k in
    let both : (a + b) * c ≡ a * c + b * c = add-mul a b c in
    sum_within (a + b) s (m * up e * down d) t (n * up d * down e) c (beq s t) (ltb (m * up e * down d) (n * up d * down e)) small (mul-pos (down_pos e) (down_pos d)) (omega arith)

larger : (b n x d : ℕ) → 0 < n → x ≤ b * d → x * 1 ≤ b * (n * 1 * d)
larger b n x d some h =
    let one : 1 * d ≤ n * d = mul-le-mul_right d some in
    let more : d * b ≤ n * d * b = mul-le-mul_right b (le_trans (le_of_eq (sym (one-mul d))) one) in
    rw (mul-one x, mul-one n) (le_trans h (le_trans (le_of_eq (mul_comm b d)) (le_trans more (le_of_eq (mul_comm (n * d) b)))))

positive : (n d : ℕ) → 0 < n → 0 < d → 0 < n * 1 * d
positive n d k h = rw (mul-one n) (mul-pos k h)

-- a quotient by a whole number above 0
pub div_within : (b n : ℕ) (x : Float) → b ≤ 2 ^ 24 → 0 < n → eqb n 0 ≡ false → Within b x → Within b (div binary32 x (fin false n (pos 0)))
unfolding Within div
div_within b n nan small k z h = absurd h
div_within b n (inf s) small k z h = absurd h
div_within b n (fin s m e) small k z h =
    rw (z) (round_within b (unlike s false) (m * up e * 1) (n * 1 * down e) small (positive n (down e) k (down_pos e)) (larger b n (m * up e) (down e) k h))

-- ---- from a test

none : (b x d : ℕ) → x ≤ 0 → x ≤ b * d
none b x d h = le_trans h zero-le

nothing : (d : ℕ) → 0 * 1 * d ≡ 0
nothing d = zero-mul d

-- not above b, as numbers over one divisor
passed : (b x d : ℕ) → ltb (b * 1 * d) (x * 1) ≡ false → x ≤ b * d
passed b x d h =
    let l : x * 1 ≤ b * 1 * d = nltb→le (b * 1 * d) (x * 1) (subst (λ (z : Bool). T (not z)) (sym h) tt) in
    le_trans (le_of_eq (sym (mul-one x))) (le_trans l (le_of_eq (ap (λ (z : ℕ). z * d) (mul-one b))))

-- the size of x in the arms of its absolute value
negative : (b m : ℕ) (e : ℤ) (y : Float) (c : Bool) → (T (not c) → m * up e ≤ 0) → lt (fin false b (pos 0)) (cond c (fin false m e) y) ≡ false → m * up e ≤ b * down e
unfolding lt
negative b m e y true k h = passed b (m * up e) (down e) h
negative b m e y false k h = none b (m * up e) (down e) (k tt)

other : (b m : ℕ) (e : ℤ) (y z : Float) (c d : Bool) → (T c → m * up e ≤ 0) → (T d → m * up e ≤ 0) → lt (fin false b (pos 0)) (cond c y (cond d z (fin false m e))) ≡ false → m * up e ≤ b * down e
unfolding lt
other b m e y z true d k j h = none b (m * up e) (down e) (k tt)
other b m e y z false true k j h = none b (m * up e) (down e) (j tt)
other b m e y z false false k j h = passed b (m * up e) (down e) h

not_less : (x d : ℕ) → T (not (ltb 0 (x * 1 + 0 * 1 * d))) → x ≤ 0
not_less x d t =
    let l : x * 1 + 0 * 1 * d ≤ 0 = nltb→le 0 (x * 1 + 0 * 1 * d) t in
    let one : x * 1 ≡ x = mul-one x in
    omega arith

less : (x d : ℕ) → T (ltb (x * 1) (0 * 1 * d)) → x ≤ 0
less x d t =
    let l : x * 1 < 0 * 1 * d = ltb→lt (x * 1) (0 * 1 * d) t in
    let e : 0 * 1 * d ≡ 0 = nothing d in
    absurd (omega arith)

level_zero : (x d : ℕ) → T (eqb (x * 1) (0 * 1 * d) && true) → x ≤ 0
level_zero x d t =
    let l : x * 1 ≡ 0 * 1 * d = eqb→eq (x * 1) (0 * 1 * d) (and_l (eqb (x * 1) (0 * 1 * d)) true t) in
    let e : 0 * 1 * d ≡ 0 = nothing d in
    let one : x * 1 ≡ x = mul-one x in
    omega arith

-- a finite x whose size is not above the whole number b
pub tested_within : (b : ℕ) (x : Float) → is_finite x ≡ true → lt (fin false b (pos 0)) (abs_of x) ≡ false → Within b x
unfolding Within is_finite abs_of lt eq neg of_bits
tested_within b nan f h = absurd (true≢false (sym f))
tested_within b (inf s) f h = absurd (true≢false (sym f))
tested_within b (fin true m e) f h = negative b m e _ (ltb 0 (m * up e * 1 + 0 * 1 * down e)) (not_less (m * up e) (down e)) h
tested_within b (fin false m e) f h =
    other b m e _ _ (ltb (m * up e * 1) (0 * 1 * down e)) (eqb (m * up e * 1) (0 * 1 * down e) && true) (less (m * up e) (down e)) (level_zero (m * up e) (down e)) h
