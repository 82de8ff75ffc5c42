-- Where a float is a number, and where it is finite: what a sum, a square and a root say of what they are made from.
use mathlib.Core.Path.{◌≡◌}
use mathlib.Core.Bool.{true, false}
use Prim.Native.Nat.{ℕ, zero, suc, ◌*◌, ◌≤◌}
use native.Mathlib.Nat.{zero-mul}
use native.Mathlib.Omega.{arith}
use borrow.Author.Tests.{le-ltb}
use lib.Dec.{T, ltb}
use lib.IntN.{ℤ}
use lib.Ieee.{Float, nan, inf, fin, Format, up, down, add, mul, lt, is_nan}
use Rattle.float.specs.Compare.{is_finite}
use Rattle.float.specs.Sqrt.{sqrt_of}
use Rattle.paths.specs.Numbers.{is_number}

-- what is above something is a number
pub above_number : (x y : Float) → T (lt x y) → T (is_number y)
unfolding lt is_nan
above_number nan y h = absurd h
above_number (inf s) nan h = absurd h
above_number (inf s) (inf t) h = tt
above_number (inf s) (fin t n d) h = tt
above_number (fin s m e) nan h = absurd h
above_number (fin s m e) (inf t) h = tt
above_number (fin s m e) (fin t n d) h = tt

-- ---- what is not zero

abbrev pub NotZero : Float → Type 0
NotZero nan = Unit {0}
NotZero (inf s) = Unit {0}
NotZero (fin s zero e) = ⊥
NotZero (fin s (suc m) e) = Unit {0}

no_size : (e d : ℤ) → 0 * up d * down e ≡ 0
no_size e d = rw (zero-mul (up d), zero-mul (down e))

none_below : (a : ℕ) (e d : ℤ) → ltb a (0 * up d * down e) ≡ false
none_below a e d = let z = no_size e d in let l : 0 * up d * down e ≤ a = omega arith in le-ltb a (0 * up d * down e) l

-- above a literal
pub above_not_zero : (m : ℕ) (e : ℤ) (y : Float) → T (lt (fin false m e) y) → NotZero y
unfolding lt
above_not_zero m e nan h = tt
above_not_zero m e (inf t) h = tt
above_not_zero m e (fin true zero d) h = absurd h
above_not_zero m e (fin false zero d) h = absurd (rw (none_below (m * up e * down d) e d) at h)
above_not_zero m e (fin t (suc n) d) h = tt

module _ (f : Format) where
  -- ---- sums

  pub number_left : (x y : Float) → T (is_number (add f x y)) → T (is_number x)
  unfolding add is_nan
  number_left nan y h = absurd h
  number_left (inf s) y h = tt
  number_left (fin s m e) y h = tt

  pub number_right : (x y : Float) → T (is_number (add f x y)) → T (is_number y)
  unfolding add is_nan
  number_right nan y h = absurd h
  number_right (inf s) nan h = absurd h
  number_right (inf s) (inf t) h = tt
  number_right (inf s) (fin t n d) h = tt
  number_right (fin s m e) nan h = absurd h
  number_right (fin s m e) (inf t) h = tt
  number_right (fin s m e) (fin t n d) h = tt

  pub finite_left : (x y : Float) → T (is_finite (add f x y)) → T (is_finite x)
  unfolding add is_finite
  finite_left nan y h = absurd h
  finite_left (inf s) nan h = absurd h
  finite_left (inf true) (inf true) h = absurd h
  finite_left (inf true) (inf false) h = absurd h
  finite_left (inf false) (inf true) h = absurd h
  finite_left (inf false) (inf false) h = absurd h
  finite_left (inf s) (fin t n d) h = absurd h
  finite_left (fin s m e) y h = tt

  pub finite_right : (x y : Float) → T (is_finite (add f x y)) → T (is_finite y)
  unfolding add is_finite
  finite_right nan y h = absurd h
  finite_right (inf s) nan h = absurd h
  finite_right (inf true) (inf true) h = absurd h
  finite_right (inf true) (inf false) h = absurd h
  finite_right (inf false) (inf true) h = absurd h
  finite_right (inf false) (inf false) h = absurd h
  finite_right (inf s) (fin t n d) h = tt
  finite_right (fin s m e) nan h = absurd h
  finite_right (fin s m e) (inf t) h = absurd h
  finite_right (fin s m e) (fin t n d) h = tt

  -- ---- squares

  pub number_square : (x : Float) → T (is_number (mul f x x)) → T (is_number x)
  unfolding mul is_nan
  number_square nan h = absurd h
  number_square (inf s) h = tt
  number_square (fin s m e) h = tt

  pub finite_square : (x : Float) → T (is_finite (mul f x x)) → T (is_finite x)
  unfolding mul is_finite
  finite_square nan h = absurd h
  finite_square (inf s) h = absurd h
  finite_square (fin s m e) h = tt

-- ---- roots

pub finite_root : (x : Float) → T (is_finite (sqrt_of x)) → T (is_finite x)
unfolding sqrt_of is_finite
finite_root nan h = absurd h
finite_root (inf true) h = absurd h
finite_root (inf false) h = absurd h
finite_root (fin s m e) h = tt
