-- A fraction of a size up to b rounds to a float of a size up to b, for whole numbers b that the format counts without a gap.
use mathlib.Core.Path.{◌≡◌, sym, ap, subst, ◌∙◌}
use mathlib.Core.Bool.{Bool, true, false, cond, ◌&&◌, ◌||◌, true≢false}
use Prim.Native.Nat.{ℕ, zero, suc, ◌+◌, ◌*◌, ◌^◌, ◌≤◌, ◌<◌}
use native.Mathlib.Nat.{le_trans, le_of_eq, le_of_lt, mul-one, mul_right_comm, le_of_mul-le-mul_right}
use native.Mathlib.Omega.{arith}
use lib.Dec.{T, ltb, eqb, ltb→lt, eqb→eq}
use lib.IntN.{ℤ, pos}
use lib.Ieee.{Float, nan, inf, fin, binary32, prec, emax, low, up, down, odd, units, round, lt, eq, le}
use lib.Ieee.Fits.{round_is, down_pos}
use lib.Ieee.Exact.{HasValue}
use lib.Ieee.Back.{round_whole}
use lib.Ieee.Order.{round_mono}
use Rattle.bounds.specs.Bounds.{Within}

le_from : (a b : ℕ) (x y : Bool) → (T x → a < b) → (T y → a ≡ b) → T (x || (y && true)) → a ≤ b
le_from a b true y f g t = le_of_lt (f tt)
le_from a b false true f g t = le_of_eq (g tt)
le_from a b false false f g t = absurd t

-- ---- what lies below a float of the value b is of a size up to b, whatever its sign
within_le : (b : ℕ) (s : Bool) (m : ℕ) (e : ℤ) (y : Float) → T (le (fin false m e) y) → HasValue y false b 1 → Within b (fin s m e)
unfolding Within le lt eq
within_le b s m e nan h v = absurd v
within_le b s m e (inf t) h v = absurd v
within_le b s m e (fin true n d) h v = absurd (true≢false v.0)
within_le b s m e (fin false n d) h v =
    let x = m * up e * down d in
    let y = n * up d * down e in
    let l : x ≤ y = le_from x y (ltb x y) (eqb x y) (ltb→lt x y) (eqb→eq x y) h in
    let same : n * up d ≡ b * down d = sym (mul-one (n * up d)) ∙ v.1 in
    let r : y ≡ b * down e * down d = ap (λ (z : ℕ). z * down e) same ∙ mul_right_comm b (down d) (down e) in
    le_of_mul-le-mul_right (le_trans l (le_of_eq r)) (down_pos d)

within_odd : (b k j : ℕ) (s : Bool) (q l : ℕ) (y : Float) → T (le (odd k false q j l) y) → HasValue y false b 1 → Within b (odd k s q j l)
unfolding odd
within_odd b k j s zero l y h v = within_le b s zero (pos zero) y h v
within_odd b k j s (suc q) l y h v = within_le b s _ _ y h v

no_inf : (y : Float) (b : ℕ) → T (le (inf false) y) → HasValue y false b 1 → ⊥
unfolding le lt eq
no_inf nan b h v = v
no_inf (inf t) b h v = v
no_inf (fin t n d) b h v = h

within_cond :
    (b k j : ℕ) (s : Bool) (q l : ℕ) (y : Float) (c : Bool) → T (le (cond c (odd k false q j l) (inf false)) y) → HasValue y false b 1 →
    Within b (cond c (odd k s q j l) (inf s))
within_cond b k j s q l y true h v = within_odd b k j s q l y h v
within_cond b k j s q l y false h v = absurd (no_inf y b h v)

within_units : (b : ℕ) (s : Bool) (q k : ℕ) (y : Float) → T (le (units binary32 false q k) y) → HasValue y false b 1 → Within b (units binary32 s q k)
unfolding units
within_units b s q k y h v = within_cond b (suc (prec binary32)) k s q (low binary32) y (ltb (q * 2 ^ k) (2 ^ (low binary32 + suc (emax binary32)))) h v

pub round_within : (b : ℕ) (s : Bool) (a c : ℕ) → b ≤ 2 ^ 24 → 0 < c → a ≤ b * c → Within b (round binary32 s a c)
round_within b s a c small some h =
    let y = round binary32 false b 1 in
    let below : T (le (round binary32 false a c) y) = round_mono binary32 a c b 1 some (omega arith) (le_trans (le_of_eq (mul-one a)) h) in
    subst (Within b) (sym (round_is binary32 s a c))
    (within_units b s _ _ y (subst (λ (z : Float). T (le z y)) (round_is binary32 false a c) below) (round_whole binary32 false b small))
