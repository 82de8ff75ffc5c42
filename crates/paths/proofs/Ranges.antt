-- Floats within a range: a product and a quotient of values in range are finite and above zero, and so large a quotient that it is not finite needs
-- a divisor next to nothing.
use mathlib.Core.Path.{◌≡◌, sym, ap, ◌∙◌, subst}
use mathlib.Core.Bool.{Bool, true, false, not, cond, ◌&&◌}
use Prim.Native.Nat.{ℕ, zero, suc, ◌-◌, ◌*◌, ◌/◌, ◌%◌, ◌^◌, ◌<◌, ◌≤◌, compare}
use native.Mathlib.Nat.{mul-pos, zero-lt-suc, mul_comm, mul-one, mul-mul-mul_comm, mul-le-mul, le_trans, le_of_eq, le_of_lt}
use native.Mathlib.Omega.{arith}
use borrow.Author.Tests.{ne_eqb}
use lib.Dec.{T, ltb, leb, eqb, leb→le, nltb→le, ltb→lt, lt→ltb}
use lib.IntN.{ℤ, pos, negsuc}
use lib.Ieee.{Float, nan, inf, fin, Format, binary32, size, nearest, up, down, unlike, odd, units, round, mul, div, lt, le, fits, of_bits}
use lib.Ieee.Fits.{up_pos, down_pos, and_l, and_r}
use lib.Ieee.Order.{round_mono}
use lib.Ieee.Positive.{num, den, positive, den_pos, le→cross, cross→le, between, mul_mono}
use Rattle.float.specs.Literals.{zero32}
use Rattle.float.proofs.Numbers.{by_order}
use Rattle.float.proofs.Squares.{square_lt_back}
use Rattle.vector.specs.Vector.{tiny}
use Rattle.paths.proofs.Floats.{above_not_zero, finite_square}
use Rattle.float.specs.Compare.{is_finite}
use Rattle.scene.specs.Limits.{most_distance, least_rate, most_rate}

-- ---- above zero

pub positive_of : (x : Float) → T (is_finite x) → T (lt zero32 x) → T (positive x)
unfolding is_finite lt of_bits
positive_of nan h g = absurd h
positive_of (inf s) h g = absurd h
positive_of (fin true m e) h g = absurd g
positive_of (fin false zero e) h g = let l = ltb→lt (0 * 1 * down e) (0 * up e * 1) g in let no : ⊥ = omega arith in absurd no
positive_of (fin false (suc m) e) h g = lt→ltb 0 (suc m) (omega arith)

pub le_of_not_lt : (x y : Float) → T (positive x) → T (positive y) → T (not (lt y x)) → T (le x y)
unfolding lt
le_of_not_lt x y p q h = cross→le x y p q (crossed x y p q h) where
  crossed : (x y : Float) → T (positive x) → T (positive y) → T (not (lt y x)) → num x * den y ≤ num y * den x
  crossed nan y p q h = absurd p
  crossed (inf s) y p q h = absurd p
  crossed (fin true m e) y p q h = absurd p
  crossed (fin false m e) nan p q h = absurd q
  crossed (fin false m e) (inf t) p q h = absurd q
  crossed (fin false m e) (fin true n d) p q h = absurd q
  crossed (fin false m e) (fin false n d) p q h = nltb→le (n * up d * down e) (m * up e * down d) h

-- the smallest, 2 ^ -149
abbrev pub smallest : Float
smallest = fin false 1 (negsuc 148)

pub above_smallest : (x : Float) → T (positive x) → T (fits binary32 x) → T (le smallest x)
unfolding fits
above_smallest x p f = cross→le smallest x (lt→ltb 0 1 (omega arith)) p (crossed x p f) where
  crossed : (x : Float) → T (positive x) → T (fits binary32 x) → 1 * up (negsuc 148) * den x ≤ num x * 2 ^ 149
  crossed nan p f = absurd p
  crossed (inf s) p f = absurd p
  crossed (fin true m e) p f = absurd p
  crossed (fin false zero e) p f = absurd p
  crossed (fin false (suc m) e) p f =
      let small : down e ≤ 2 ^ 149 =
      leb→le (down e) (2 ^ 149)
      (and_r (eqb (suc m % 2) 1 && ltb (suc m) (2 ^ 24)) (leb (down e) (2 ^ 149))
      (and_l (eqb (suc m % 2) 1 && ltb (suc m) (2 ^ 24) && leb (down e) (2 ^ 149)) (ltb (suc m * up e) (2 ^ 128 * down e)) f)) in
      let some : 1 ≤ suc m * up e = mul-pos (zero-lt-suc m) (up_pos e) in
      mul-le-mul some small

-- ---- a quotient

regroup : (a b c d : ℕ) → a * b * (c * d) ≡ a * d * (c * b)
regroup a b c d = ap (λ (z : ℕ). a * b * z) (mul_comm c d) ∙ mul-mul-mul_comm a b d c ∙ ap (λ (z : ℕ). a * d * z) (mul_comm b c)

module _ (f : Format) where
  div_is : (x y : Float) → T (positive x) → T (positive y) → div f x y ≡ round f false (num x * den y) (num y * den x)
  unfolding div
  div_is nan y p q = absurd p
  div_is (inf s) y p q = absurd p
  div_is (fin true m e) y p q = absurd p
  div_is (fin false m e) nan p q = absurd q
  div_is (fin false m e) (inf t) p q = absurd q
  div_is (fin false m e) (fin true n d) p q = absurd q
  div_is (fin false m e) (fin false zero d) p q = absurd q
  div_is (fin false m e) (fin false (suc n) d) p q = rw (ne_eqb (suc n) 0 (λ z. omega arith))

  -- the more is divided, and by the less, the more there is
  pub div_mono :
      (x x' y y' : Float) → T (positive x) → T (positive x') → T (positive y) → T (positive y') → T (le x x') → T (le y' y) → T (le (div f x y) (div f x' y'))
  div_mono x x' y y' p p' q q' h g =
      rw (div_is x y p q, div_is x' y' p' q')
      (round_mono f (num x * den y) (num y * den x) (num x' * den y') (num y' * den x') (mul-pos (some y q) (den_pos x)) (mul-pos (some y' q') (den_pos x'))
      (le_trans (le_of_eq (regroup (num x) (den y) (num y') (den x')))
      (le_trans (mul-le-mul (le→cross x x' p p' h) (le→cross y' y q' q g)) (le_of_eq (sym (regroup (num x') (den y') (num y) (den x)))))))
    where
      some : (x : Float) → T (positive x) → 0 < num x
      some nan p = absurd p
      some (inf s) p = absurd p
      some (fin true m e) p = absurd p
      some (fin false m e) p = mul-pos (ltb→lt 0 m p) (up_pos e)

-- ---- the delay

-- 318 and 361, between which the speed lies (`Speed`)
abbrev pub least_speed : Float
least_speed = of_bits binary32 0x439f_0000

abbrev pub most_speed : Float
most_speed = of_bits binary32 0x43b4_8000

-- a length up to 1,000 times a rate from 8,000 to 192,000 by a speed from 318 to 361
module _ (total rate speed : Float) (p : T (positive total)) (f : T (fits binary32 total)) (h : T (le total most_distance))
    (r : T (le least_rate rate)) (r' : T (le rate most_rate)) (v : T (le least_speed speed)) (v' : T (le speed most_speed)) where
  rate_positive : T (positive rate)
  unfolding of_bits
  rate_positive = between least_rate rate most_rate tt tt r r'

  speed_positive : T (positive speed)
  unfolding of_bits
  speed_positive = between least_speed speed most_speed tt tt v v'

  samples_positive : T (positive (mul binary32 total rate))
  unfolding of_bits mul
  samples_positive =
      between (mul binary32 smallest least_rate) (mul binary32 total rate) (mul binary32 most_distance most_rate) tt tt
      (mul_mono binary32 smallest total least_rate rate tt p tt rate_positive (above_smallest total p f) r)
      (mul_mono binary32 total most_distance rate most_rate p tt rate_positive tt h r')

  samples_above : T (le (mul binary32 smallest least_rate) (mul binary32 total rate))
  unfolding of_bits
  samples_above = mul_mono binary32 smallest total least_rate rate tt p tt rate_positive (above_smallest total p f) r

  samples_below : T (le (mul binary32 total rate) (mul binary32 most_distance most_rate))
  unfolding of_bits
  samples_below = mul_mono binary32 total most_distance rate most_rate p tt rate_positive tt h r'

  pub delay_positive : T (positive (div binary32 (mul binary32 total rate) speed))
  unfolding of_bits mul div
  delay_positive =
      between (div binary32 (mul binary32 smallest least_rate) most_speed) (div binary32 (mul binary32 total rate) speed) (div binary32 (mul binary32 most_distance most_rate) least_speed) tt tt
      (div_mono binary32 (mul binary32 smallest least_rate) (mul binary32 total rate) most_speed speed tt samples_positive tt speed_positive samples_above v')
      (div_mono binary32 (mul binary32 total rate) (mul binary32 most_distance most_rate) speed least_speed samples_positive tt speed_positive tt samples_below v)

-- ---- a quotient that is finite

odd_finite : (d : ℕ) (s : Bool) (q k l : ℕ) → T (is_finite (odd d s q k l))
unfolding odd is_finite
odd_finite d s zero k l = tt
odd_finite d s (suc q) k l = tt

-- what is not above a finite value
below_finite : (s : Bool) (q k : ℕ) (t : Bool) (n : ℕ) (e : ℤ) → T (le (units binary32 false q k) (fin t n e)) → T (is_finite (units binary32 s q k))
unfolding units le is_finite
below_finite s q k t n e h = picked (ltb (q * 2 ^ k) (2 ^ 277)) h where
  picked : (b : Bool) → T (le (cond b (odd 25 false q k 149) (inf false)) (fin t n e)) → T (is_finite (cond b (odd 25 s q k 149) (inf s)))
  picked true h = odd_finite 25 s q k 149
  picked false h = absurd h

-- what is not below the infinity
above_infinite : (s : Bool) (q k : ℕ) → T (le (inf false) (units binary32 false q k)) → T (is_finite (units binary32 s q k)) → ⊥
unfolding units le is_finite odd
above_infinite s q k h g = picked (ltb (q * 2 ^ k) (2 ^ 277)) q h g where
  picked : (b : Bool) (q : ℕ) → T (le (inf false) (cond b (odd 25 false q k 149) (inf false))) → T (is_finite (cond b (odd 25 s q k 149) (inf s))) → ⊥
  picked true zero h g = h
  picked true (suc q) h g = h
  picked false q h g = g

small_finite : (s : Bool) (a c : ℕ) → 0 < c → a ≤ 2 ^ 125 * c → T (is_finite (round binary32 s a c))
unfolding round
small_finite s a c some h =
    let n = a * 2 ^ 149 in
    let k = size (n / c) - 24 in
    let u = c * 2 ^ k in
    below_finite s (nearest (n / u) (compare (n % u * 2) u)) k false 1 (pos 125) (round_mono binary32 a c (2 ^ 125) 1 some (lt→one tt) (rw (mul-one a) h)) where
      lt→one : Unit {0} → 0 < 1
      lt→one x = omega arith

finite_small : (s : Bool) (a c : ℕ) → 0 < c → T (is_finite (round binary32 s a c)) → a < 2 ^ 128 * c
unfolding round
finite_small s a c some h =
    let n = a * 2 ^ 149 in
    let k = size (n / c) - 24 in
    let u = c * 2 ^ k in
    by_order (2 ^ 128 * c) a
    (λ large. absurd (above_infinite s (nearest (n / u) (compare (n % u * 2) u)) k (round_mono binary32 (2 ^ 128) 1 a c (lt→one tt) some (rw (mul-one a) large)) h))
    (λ less. less)
  where
    lt→one : Unit {0} → 0 < 1
    lt→one x = omega arith

-- a value whose square is finite is below 2 ^ 64
square_bound : (s : Bool) (m : ℕ) (e : ℤ) → T (is_finite (mul binary32 (fin s m e) (fin s m e))) → m * up e < 2 ^ 64 * down e
unfolding mul
square_bound s m e h =
    square_lt_back (m * up e) (2 ^ 64 * down e)
    (subst (λ (z : ℕ). m * up e * (m * up e) < z) (sym (mul-mul-mul_comm (2 ^ 64) (down e) (2 ^ 64) (down e)))
    (finite_small (unlike s s) (m * up e * (m * up e)) (down e * down e) (mul-pos (down_pos e) (down_pos e)) h))

not_tiny : (n d : ℕ) → 2305843 * 1 * d < n * 2 ^ 61 → d ≤ n * 2 ^ 61
not_tiny n d h = omega arith

pub quotient_finite : (x y : Float) → T (is_finite (mul binary32 x x)) → T (is_finite y) → T (lt tiny y) → T (is_finite (div binary32 x y))
unfolding div is_finite lt of_bits
quotient_finite x y h g l = go x y h (finite_square binary32 x h) g l where
  go : (x y : Float) → T (is_finite (mul binary32 x x)) → T (is_finite x) → T (is_finite y) → T (lt tiny y) → T (is_finite (div binary32 x y))
  go nan y h f g l = absurd f
  go (inf s) y h f g l = absurd f
  go (fin s m e) nan h f g l = absurd g
  go (fin s m e) (inf t) h f g l = absurd g
  go (fin s m e) (fin true n d) h f g l = absurd l
  go (fin s m e) (fin false zero d) h f g l = absurd (above_not_zero 2305843 (negsuc 60) (fin false zero d) l)
  go (fin s m e) (fin false (suc n) d) h f g l =
      rw (ne_eqb (suc n) 0 (λ z. omega arith))
      (small_finite (unlike s false) (m * up e * down d) (suc n * up d * down e) (mul-pos (mul-pos (zero-lt-suc n) (up_pos d)) (down_pos e))
      (le_trans (mul-le-mul (le_of_lt (square_bound s m e h)) (not_tiny (suc n * up d) (down d) (ltb→lt (2305843 * 1 * down d) (suc n * up d * 2 ^ 61) l)))
      (le_of_eq (regroup (2 ^ 64) (down e) (suc n * up d) (2 ^ 61)))))
