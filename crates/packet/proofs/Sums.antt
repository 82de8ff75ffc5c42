-- The sums of squared gains: what the loops over them keep, and that the loop's test, which starts from infinity, is the definition's.
use Prim.Native.Nat.{ℕ, ◌+◌, ◌*◌, ◌/◌, ◌%◌, ◌≤◌, ◌<◌}
use mathlib.Core.Path.{◌≡◌, refl, sym, ap, ◌∙◌}
use mathlib.Core.Bool.{Bool, true, false, not, ◌&&◌}
use mathlib.Core.List.{List, [], ◌∷◌, map, foldl}
use lib.Ieee.{Float, nan, inf, fin, binary32, of_bits, of_fields, nan_bits, lt}
use native.Mathlib.Omega.{arith}
use lib.ListN.{length, get_or, take, drop}
use lib.Seq.{drop-drop}
use lib.Dec.{T, eqb}
use borrow.Author.Tests.{ltb-true, ne_eqb}
use Rattle.packet.specs.Limits.{bands, fixed_words, tap_words}
use Rattle.packet.specs.Floats.{finite_bits}
use Rattle.packet.specs.Tap.{Tap, stored_tap}
use Rattle.packet.specs.Refusals.{all, sum_of_squared_gains, squared_sum, plus_square, least_sum, none_exceeds, valid_sums}
use Rattle.packet.specs.Helpers.{finite_gains}
use Rattle.packet.proofs.Runs.{and_both}
use Rattle.packet.proofs.Areas.{from_step, taps_from, window, window_step}

-- a finite float's bits are no NaN's
pub finite_not_nan : (b : ℕ) → finite_bits b ≡ true → T (not (nan_bits binary32 b))
unfolding nan_bits
finite_not_nan b h =
    let l : b % 2147483648 < 2139095040 = ltb-true _ _ h in
    let n : eqb (b % 2147483648 / 8388608) 255 ≡ false = ne_eqb (b % 2147483648 / 8388608) 255 (λ e. omega arith) in
    rw n tt

-- ---- sums of squares

abbrev pub infinity : Float
infinity = of_bits binary32 0x7f80_0000

-- each sum is above 1e-14 and none exceeds the one before it, which for the first is p
unfoldable pub falling : Float → List Float → Bool
falling p [] = true
falling p (e ∷ es) = (lt least_sum e && not (lt p e)) && falling e es

and_swap : (a b c d : Bool) → ((a && b) && (c && d)) ≡ ((a && c) && (b && d))
and_swap true true c d = refl
and_swap true false true d = refl
and_swap true false false d = refl
and_swap false b c d = refl

falling_all : (p : Float) (es : List Float) → falling p es ≡ (all (lt least_sum) es && none_exceeds (p ∷ es))
unfolding falling all none_exceeds
falling_all p [] = refl
falling_all p (e ∷ es) =
    ap (λ (b : Bool). (lt least_sum e && not (lt p e)) && b) (falling_all e es)
    ∙ and_swap (lt least_sum e) (not (lt p e)) (all (lt least_sum) es) (none_exceeds (e ∷ es))

not_below : (e : Float) → lt infinity e ≡ false
unfolding lt of_bits of_fields
not_below nan = refl
not_below (inf t) = refl
not_below (fin t m d) = refl

first_any : (es : List Float) → none_exceeds (infinity ∷ es) ≡ none_exceeds es
unfolding none_exceeds
first_any [] = refl
first_any (e ∷ es) = ap (λ (b : Bool). not b && none_exceeds (e ∷ es)) (not_below e)

pub falling_valid : (es : List Float) → falling infinity es ≡ valid_sums es
falling_valid es = falling_all infinity es ∙ ap (λ (b : Bool). all (lt least_sum) es && b) (first_any es)

module _ (at k : ℕ) (a : List ℕ) (h : k < bands) (r : at + bands ≤ length a) where
  pub finite_step : all finite_bits (window at k a) ≡ (finite_bits (get_or a (at + k) 0) && all finite_bits (window at (k + 1) a))
  unfolding all
  finite_step = ap (all finite_bits) (window_step at k a h r)

  pub finite_both : all finite_bits (window at k a) ≡ true → (finite_bits (get_or a (at + k) 0) ≡ true) × (all finite_bits (window at (k + 1) a) ≡ true)
  finite_both e = and_both (finite_bits (get_or a (at + k) 0)) (all finite_bits (window at (k + 1) a)) (sym finite_step ∙ e)

  pub square_step : (s : Float) → foldl plus_square s (window at k a) ≡ foldl plus_square (plus_square s (get_or a (at + k) 0)) (window at (k + 1) a)
  square_step s = ap (foldl plus_square s) (window_step at k a h r)

module _ (n i : ℕ) (a : List ℕ) (h : i < n) where
  pub finite_gains_step : all finite_gains (taps_from n i a) ≡ (all finite_bits (take bands (drop (i * tap_words + fixed_words) a)) && all finite_gains (taps_from n (i + 1) a))
  unfolding all stored_tap
  finite_gains_step = ap (all finite_gains) (from_step n i a h) ∙ ap (λ (l : List ℕ). all finite_bits (take bands l) && all finite_gains (taps_from n (i + 1) a)) (drop-drop fixed_words (i * tap_words) a)

  pub finite_gains_both : all finite_gains (taps_from n i a) ≡ true → (all finite_bits (take bands (drop (i * tap_words + fixed_words) a)) ≡ true) × (all finite_gains (taps_from n (i + 1) a) ≡ true)
  finite_gains_both e = and_both (all finite_bits (take bands (drop (i * tap_words + fixed_words) a))) (all finite_gains (taps_from n (i + 1) a)) (sym finite_gains_step ∙ e)

  pub falling_step : (p : Float) → falling p (map sum_of_squared_gains (taps_from n i a))
      ≡ ((lt least_sum (squared_sum (take bands (drop (i * tap_words + fixed_words) a))) && not (lt p (squared_sum (take bands (drop (i * tap_words + fixed_words) a))))) && falling (squared_sum (take bands (drop (i * tap_words + fixed_words) a))) (map sum_of_squared_gains (taps_from n (i + 1) a)))
  unfolding falling stored_tap
  falling_step p =
      ap (λ (l : List Tap). falling p (map sum_of_squared_gains l)) (from_step n i a h)
      ∙ ap (λ (l : List ℕ). (lt least_sum (squared_sum (take bands l)) && not (lt p (squared_sum (take bands l)))) && falling (squared_sum (take bands l)) (map sum_of_squared_gains (taps_from n (i + 1) a))) (drop-drop fixed_words (i * tap_words) a)
