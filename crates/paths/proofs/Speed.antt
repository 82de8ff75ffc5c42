-- A temperature within its limit gives a speed from 318 to 361: from 253 to 324 kelvins, the quotient, the root and the product grow with them.
use mathlib.Core.Bool.{Bool, true, false, ◌&&◌, ◌||◌}
use Prim.Native.Nat.{ℕ, zero, suc, ◌+◌, ◌-◌, ◌*◌, ◌≤◌, ◌<◌}
use native.Mathlib.Nat.{zero-lt-suc}
use native.Mathlib.Omega.{arith}
use borrow.Author.Tests.{lt-ltb}
use lib.Dec.{T, ltb, eqb, ltb→lt, eqb→eq}
use lib.IntN.{pos}
use lib.Ieee.{Float, nan, inf, fin, binary32, up, down, round, sum, add, mul, div, lt, le, eq, of_bits}
use lib.Ieee.Fits.{down_pos, and_l}
use lib.Ieee.Order.{round_mono}
use lib.Ieee.Positive.{positive, le→cross, between, mul_mono, le_trans_positive}
use Rattle.float.specs.Sqrt.{isqrt, root_of, sqrt_of}
use Rattle.float.proofs.Monotone.{sqrt_mono}
use Rattle.scene.specs.Limits.{least_temperature, most_temperature}
use Rattle.scene.specs.Speed.{reference_speed, zero_celsius, reference_kelvin, speed_of}
use Rattle.paths.proofs.Ranges.{div_mono, least_speed, most_speed}

-- ---- the sum

abbrev cold : Float
cold = fin false 253 (pos 0)

abbrev warm : Float
warm = fin false 81 (pos 2)

-- from `low` to `high`
pub record Within (low x high : Float) : Type 0 where
  pub below : T (le low x)
  pub above : T (le x high)

-- a / c from 253 to 324
rounded : (a c : ℕ) → 0 < c → 253 * c ≤ a * 1 → a * 1 ≤ 324 * c → Within cold (round binary32 false a c) warm
unfolding round
rounded a c some l h =
    record {
      below = round_mono binary32 253 1 a c (zero-lt-suc 0) some l;
      above = round_mono binary32 a c 324 1 some (zero-lt-suc 0) h;
    }

le_or : (a b : ℕ) (t : Bool) → T (ltb a b || (eqb a b && t)) → a ≤ b
le_or a b t h = by (ltb a b) (ltb→lt a b) h where
  by : (l : Bool) → (T l → a < b) → T (l || (eqb a b && t)) → a ≤ b
  by true f h = let l = f tt in omega arith
  by false f h = let e = eqb→eq a b (and_l (eqb a b) t h) in omega arith

ge_or : (a b : ℕ) (t : Bool) → T (ltb b a || (eqb a b && t)) → b ≤ a
ge_or a b t h = by (ltb b a) (ltb→lt b a) h where
  by : (l : Bool) → (T l → b < a) → T (l || (eqb a b && t)) → b ≤ a
  by true f h = let l = f tt in omega arith
  by false f h = let e = eqb→eq a b (and_l (eqb a b) t h) in omega arith

-- x / d, up to 50, more than 273.15, and up to 20 less
warmer : (x d : ℕ) → 0 < d → x * 1 ≤ 25 * 2 * d → Within cold (round binary32 false (x * 32768 + 8950579 * 1 * d) (d * 32768)) warm
warmer x d some h = rounded (x * 32768 + 8950579 * 1 * d) (d * 32768) (omega arith) (omega arith) (omega arith)

colder : (x d : ℕ) → 0 < d → x * 1 ≤ 5 * 4 * d → Within cold (sum binary32 true (x * 32768) false (8950579 * 1 * d) (d * 32768)) warm
unfolding sum
colder x d some h =
    let l : x * 32768 < 8950579 * 1 * d = omega arith in
    rw (lt-ltb (x * 32768) (8950579 * 1 * d) l)
    (rounded (8950579 * 1 * d - x * 32768) (d * 32768) (omega arith) (omega arith) (omega arith))

kelvins : (t : Float) → T (le least_temperature t) → T (le t most_temperature) → Within cold (add binary32 t zero_celsius) warm
unfolding le lt eq of_bits add sum
kelvins nan l h = absurd h
kelvins (inf true) l h = absurd l
kelvins (inf false) l h = absurd h
kelvins (fin false m e) l h = warmer (m * up e) (down e) (down_pos e) (le_or (m * up e * 1) (25 * 2 * down e) true h)
kelvins (fin true m e) l h = colder (m * up e) (down e) (down_pos e) (ge_or (5 * 4 * down e) (m * up e * 1) true l)

-- ---- the root

root_grows : (x y : Float) → T (positive x) → T (positive y) → T (le x y) → T (le (sqrt_of x) (sqrt_of y))
root_grows nan y p q h = absurd p
root_grows (inf s) y p q h = absurd p
root_grows (fin true m e) y p q h = absurd p
root_grows (fin false zero e) y p q h = absurd p
root_grows (fin false (suc m) e) nan p q h = absurd q
root_grows (fin false (suc m) e) (inf t) p q h = absurd q
root_grows (fin false (suc m) e) (fin true n d) p q h = absurd q
root_grows (fin false (suc m) e) (fin false zero d) p q h = absurd q
root_grows (fin false (suc m) e) (fin false (suc n) d) p q h = sqrt_mono m n e d (le→cross (fin false (suc m) e) (fin false (suc n) d) p q h)

-- ---- the speed

-- metres a second at k kelvins
abbrev quotient : Float → Float
quotient k = div binary32 k reference_kelvin

abbrev root : Float → Float
root k = sqrt_of (quotient k)

abbrev speed_at : Float → Float
speed_at k = mul binary32 reference_speed (root k)

module _ (k : Float) (w : Within cold k warm) where
  k_positive : T (positive k)
  k_positive = between cold k warm tt tt w.below w.above

  same_kelvin : T (le reference_kelvin reference_kelvin)
  unfolding of_bits le lt eq
  same_kelvin = tt

  same_speed : T (le reference_speed reference_speed)
  unfolding of_bits le lt eq
  same_speed = tt

  quotients : Within (quotient cold) (quotient k) (quotient warm)
  unfolding of_bits
  quotients =
      record {
        below = div_mono binary32 cold k reference_kelvin reference_kelvin tt k_positive tt tt w.below same_kelvin;
        above = div_mono binary32 k warm reference_kelvin reference_kelvin k_positive tt tt tt w.above same_kelvin;
      }

  quotient_positive : T (positive (quotient k))
  unfolding of_bits div round
  quotient_positive = between (quotient cold) (quotient k) (quotient warm) tt tt quotients.below quotients.above

  roots : Within (root cold) (root k) (root warm)
  unfolding of_bits div round
  roots =
      record {
        below = root_grows (quotient cold) (quotient k) tt quotient_positive quotients.below;
        above = root_grows (quotient k) (quotient warm) quotient_positive tt quotients.above;
      }

  root_positive : T (positive (root k))
  unfolding of_bits div round sqrt_of root_of isqrt
  root_positive = between (root cold) (root k) (root warm) tt tt roots.below roots.above

  speeds : Within (speed_at cold) (speed_at k) (speed_at warm)
  unfolding of_bits div round sqrt_of root_of isqrt
  speeds =
      record {
        below = mul_mono binary32 reference_speed reference_speed (root cold) (root k) tt tt tt root_positive same_speed roots.below;
        above = mul_mono binary32 reference_speed reference_speed (root k) (root warm) tt tt root_positive tt same_speed roots.above;
      }

  speed_positive : T (positive (speed_at k))
  unfolding of_bits mul div round sqrt_of root_of isqrt
  speed_positive = between (speed_at cold) (speed_at k) (speed_at warm) tt tt speeds.below speeds.above

  at_kelvins : Within least_speed (speed_at k) most_speed
  unfolding of_bits mul div round sqrt_of root_of isqrt le lt eq
  at_kelvins =
      record {
        below = le_trans_positive least_speed (speed_at cold) (speed_at k) tt tt speed_positive tt speeds.below;
        above = le_trans_positive (speed_at k) (speed_at warm) most_speed speed_positive tt tt speeds.above tt;
      }

pub speed_within : (t : Float) → T (le least_temperature t) → T (le t most_temperature) → Within least_speed (speed_of t) most_speed
unfolding speed_of
speed_within t l h = at_kelvins (add binary32 t zero_celsius) (kelvins t l h)
