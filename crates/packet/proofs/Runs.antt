-- Runs of stores: one after the other is one run, by the definition of `sets`. And small facts on counts and tests.
use Prim.Native.Nat.{ℕ, suc, ◌+◌, ◌-◌, ◌≤◌, ◌<◌}
use mathlib.Core.Path.{◌≡◌, refl, sym, ap, ◌∙◌}
use mathlib.Core.Bool.{Bool, true, false, ◌&&◌}
use mathlib.Core.List.{List, [], ◌∷◌, ◌++◌}
use native.Mathlib.Numerals.{add-one, add-two, add-three, add-four, add_five, add_six}
use native.Mathlib.Omega.{arith}
use lib.ListN.{length, drop, set}
use lib.Seq.{sets, sets-eq}

-- ---- one more of a count

pub sub_step : (n i : ℕ) → i < n → n - i ≡ suc (n - (i + 1))
sub_step n i h = omega arith

pub sub_done : (n i : ℕ) → n ≤ i → n - i ≡ 0
sub_done n i h = omega arith

-- ---- tests

pub and_both : (a b : Bool) → (a && b) ≡ true → (a ≡ true) × (b ≡ true)
and_both true b e = (refl, e)
and_both false b e = absurd (no e)
  where
    no : ◌≡◌ {A = Bool} false true → ⊥
    no e = let z : ◌≡◌ {A = ℕ} 0 1 = cc in omega arith

-- ---- runs of stores

pub sets_append : (l : List ℕ) (i : ℕ) (u v : List ℕ) → sets l i (u ++ v) ≡ sets (sets l i u) (i + length u) v
sets_append l i [] v = let e : i + 0 ≡ i = omega arith in rw e
sets_append l i (x ∷ u) v =
    let e : suc i + length u ≡ i + suc (length u) = omega arith in
    sets_append (set l i x) (suc i) u v ∙ ap (λ (k : ℕ). sets (sets (set l i x) (suc i) u) k v) e

pub sets_step : (l : List ℕ) (b k x : ℕ) (v : List ℕ) → sets l (b + k) (x ∷ v) ≡ sets (set l (b + k) x) (b + (k + 1)) v
sets_step l b k x v =
    let e : suc (b + k) ≡ b + (k + 1) = omega arith in
    ap (λ (j : ℕ). sets (set l (b + k) x) j v) e

pub sets_six : (l : List ℕ) (i a b c d e f : ℕ) (v : List ℕ)
    → sets (set (set (set (set (set (set l i a) (i + 1) b) (i + 2) c) (i + 3) d) (i + 4) e) (i + 5) f) (i + 6) v ≡ sets l i (a ∷ b ∷ c ∷ d ∷ e ∷ f ∷ v)
sets_six l i a b c d e f v = rw (add-one i, add-two i, add-three i, add-four i, add_five i, add_six i)

-- a run of stores goes on after its first part
pub goes_on : (o o' : List ℕ) (q q' : ℕ) (u v : List ℕ) → o' ≡ sets o q u → q' ≡ q + length u → sets o q (u ++ v) ≡ sets o' q' v
goes_on o o' q q' u v e f = sets_append o q u v ∙ (λ i. sets (sym e i) (sym f i) v)

-- a run of stores at the front
pub sets_front : (l v : List ℕ) → length v ≤ length l → sets l 0 v ≡ v ++ drop (length v) l
sets_front l v h =
    let e : 0 + length v ≡ length v = omega arith in
    sets-eq v l 0 (omega arith) ∙ ap (λ (k : ℕ). v ++ drop k l) e
