-- The square of a difference does not depend on which is taken from which, so neither does a distance: `distance3(from, to)` and the length
-- that `normalize3(sub3(to, from))` divides by are one root.
use mathlib.Core.Path.{◌≡◌, refl, ap, ◌∙◌}
use mathlib.Core.Bool.{Bool, true, false, not, cond}
use Prim.Native.Nat.{ℕ, zero, suc, ◌+◌, ◌-◌, ◌*◌, ◌/◌, ◌%◌, ◌^◌, ◌≤◌, compare}
use native.Mathlib.Nat.{mul_comm, add_comm}
use native.Mathlib.Omega.{arith}
use borrow.Author.Tests.{lt-ltb, le-ltb}
use lib.Dec.{ltb}
use lib.IntN.{ℤ, pos}
use lib.Ieee.{Float, nan, inf, fin, Format, binary32, prec, emax, low, size, nearest, up, down, unlike, odd, units, round, neg, sum, add, sub, mul}
use Rattle.float.proofs.Numbers.{by_order}
use Rattle.vector.specs.declared.Vec3.{Vec3}
use Rattle.vector.specs.Vector.{dot3_of, sub3_of, length3_of, distance3_of}

-- ---- a sign goes with the square

like : (s : Bool) → unlike s s ≡ false
like true = refl
like false = refl

module _ (f : Format) where
  abbrev square : Float → Float
  square x = mul f x x

  square_inf : (s t : Bool) → square (inf s) ≡ square (inf t)
  unfolding mul
  square_inf s t = rw (like s, like t)

  square_fin : (s t : Bool) (m : ℕ) (e : ℤ) → square (fin s m e) ≡ square (fin t m e)
  unfolding mul
  square_fin s t m e = rw (like s, like t)

  square_odd : (s t : Bool) (d q k l : ℕ) → square (odd d s q k l) ≡ square (odd d t q k l)
  unfolding odd
  square_odd s t d zero k l = square_fin s t zero (pos zero)
  square_odd s t d (suc q) k l = square_fin s t _ _

  square_cond : (b : Bool) (x x' y y' : Float) → square x ≡ square x' → square y ≡ square y' → square (cond b x y) ≡ square (cond b x' y')
  square_cond true x x' y y' e g = e
  square_cond false x x' y y' e g = g

  square_units : (s t : Bool) (q k : ℕ) → square (units f s q k) ≡ square (units f t q k)
  unfolding units
  square_units s t q k =
      square_cond (ltb (q * 2 ^ k) (2 ^ (low f + suc (emax f)))) (odd (suc (prec f)) s q k (low f)) (odd (suc (prec f)) t q k (low f)) (inf s) (inf t)
      (square_odd s t (suc (prec f)) q k (low f)) (square_inf s t)

  square_round : (s t : Bool) (a c : ℕ) → square (round f s a c) ≡ square (round f t a c)
  unfolding round
  square_round s t a c =
      let n = a * 2 ^ low f in
      let k = size (n / c) - prec f in
      let u = c * 2 ^ k in
      square_units s t (nearest (n / u) (compare (n % u * 2) u)) k

  -- ---- a difference

  square_sum : (s t : Bool) (a b c : ℕ) → square (sum f s a (not t) b c) ≡ square (sum f t b (not s) a c)
  unfolding sum
  square_sum true false a b c = square_round true false (a + b) c ∙ ap (λ (n : ℕ). square (round f false n c)) (add_comm a b)
  square_sum false true a b c = square_round false true (a + b) c ∙ ap (λ (n : ℕ). square (round f true n c)) (add_comm a b)
  square_sum true true a b c =
      by_order a b
      (λ low. by_order b a
      (λ high. let e : a ≡ b = omega arith in rw (le-ltb _ _ low, le-ltb _ _ high, e))
      (λ less. rw (lt-ltb _ _ less, le-ltb _ _ low) (square_round false true (b - a) c)))
      (λ less. let low : b ≤ a = omega arith in rw (lt-ltb _ _ less, le-ltb _ _ low) (square_round true false (a - b) c))
  square_sum false false a b c =
      by_order a b
      (λ low. by_order b a
      (λ high. let e : a ≡ b = omega arith in rw (le-ltb _ _ low, le-ltb _ _ high, e))
      (λ less. rw (lt-ltb _ _ less, le-ltb _ _ low) (square_round true false (b - a) c)))
      (λ less. let low : b ≤ a = omega arith in rw (lt-ltb _ _ less, le-ltb _ _ low) (square_round false true (a - b) c))

  pub square_turned : (x y : Float) → square (sub f x y) ≡ square (sub f y x)
  unfolding sub add neg
  square_turned nan nan = refl
  square_turned nan (inf t) = refl
  square_turned nan (fin t n d) = refl
  square_turned (inf s) nan = refl
  square_turned (inf true) (inf true) = refl
  square_turned (inf true) (inf false) = square_inf true false
  square_turned (inf false) (inf true) = square_inf false true
  square_turned (inf false) (inf false) = refl
  square_turned (inf s) (fin t n d) = square_inf s (not s)
  square_turned (fin s m e) nan = refl
  square_turned (fin s m e) (inf t) = square_inf (not t) t
  square_turned (fin s m e) (fin t n d) =
      square_sum s t (m * up e * down d) (n * up d * down e) (down e * down d)
      ∙ ap (λ (c : ℕ). square (sum f t (n * up d * down e) (not s) (m * up e * down d) c)) (mul_comm (down e) (down d))

-- ---- a distance

pub distance_turned : (a b : Vec3) → distance3_of a b ≡ length3_of (sub3_of b a)
unfolding distance3_of length3_of dot3_of sub3_of
distance_turned a b =
    rw (square_turned binary32 a.x b.x, square_turned binary32 a.y b.y, square_turned binary32 a.z b.z)
