-- The first of some tests that fails: none does exactly where all hold, and the one that is answered is false. And the tests of `settings_fault`
-- together are the test of refusal 1.
use Prim.Native.Nat.{ℕ, zero, suc, ◌+◌, ◌≤◌}
use native.Mathlib.Omega.{arith}
use borrow.Author.Tests.{ne_eqb}
use lib.Dec.{eqb}
use lib.ListN.{get_or}
use mathlib.Core.Path.{◌≡◌, refl, sym, ◌∙◌}
use mathlib.Core.Bool.{Bool, true, false, ◌&&◌, and_assoc, and-true}
use mathlib.Core.List.{List, [], ◌∷◌}
use Prim.{absurd}
use Rattle.scene.specs.declared.Settings.{Settings}
use Rattle.scene.specs.Limits.{settings_of, counts_of, rates_of, merges_of, model_numbers_of, later_settings_of, probe_settings_of, low_air_of, high_air_of}
use Rattle.settings_fault.specs.Fault.{first_failed, planes_in_bounds, room_in_bounds, crossings_in_bounds, high_air_tests, air_tests, probe_tests, model_tests, merge_tests, rate_tests, setting_tests}

-- whether all hold
abbrev pub all_of : List Bool → Bool
all_of [] = true
all_of (b ∷ bs) = b && all_of bs

pub none_failed : (k : ℕ) (bs : List Bool) → eqb (first_failed (suc k) bs) 0 ≡ all_of bs
none_failed k [] = refl
none_failed k (true ∷ bs) = none_failed (suc k) bs
none_failed k (false ∷ bs) = ne_eqb (suc k) 0 (λ z. omega arith)

-- an answer that is below the first number is 0
late : (k n : ℕ) (bs : List Bool) → first_failed (suc k) bs ≡ suc n → k ≤ n
late k n [] e = absurd (omega (arith, e))
late k n (true ∷ bs) e = let l = late (suc k) n bs e in omega arith
late k n (false ∷ bs) e = omega (arith, e)

pub failed : (k j : ℕ) (bs : List Bool) → first_failed (suc k) bs ≡ suc (k + j) → get_or bs j true ≡ false
failed k j [] e = absurd (omega (arith, e))
failed k zero (true ∷ bs) e = absurd (let l = late (suc k) (k + zero) bs e in omega arith)
failed k (suc j) (true ∷ bs) e = failed (suc k) j bs (e ∙ omega arith)
failed k zero (false ∷ bs) e = refl
failed k (suc j) (false ∷ bs) e = absurd (omega (arith, e))

-- the tests one by one, and in the groups of `settings_of`
pub all_settings : (s : Settings) (c : ℕ) → all_of (setting_tests s c) ≡ settings_of s c
unfolding settings_of counts_of rates_of merges_of model_numbers_of later_settings_of probe_settings_of low_air_of high_air_of setting_tests planes_in_bounds room_in_bounds rate_tests merge_tests model_tests probe_tests crossings_in_bounds air_tests high_air_tests
all_settings s c = sym (simp (and_assoc, and-true))
