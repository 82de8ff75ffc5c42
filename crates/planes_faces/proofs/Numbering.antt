-- The numbers of corners are equal exactly where their keys are.
use mathlib.Core.Path.{◌≡◌, sym, ◌∙◌}
use mathlib.Core.List.{List}
use Prim.Native.Nat.{ℕ, zero, suc, ◌+◌, ◌*◌, ◌<◌}
use native.Mathlib.Nat.{lt_of_le_of_lt}
use native.Mathlib.Omega.{arith}
use lib.Ieee.{Float}
use lib.ListN.{get_or}
use Rattle.columns.specs.Columns.{vec_at_of}
use Rattle.order.specs.Runs.{first_at}
use Rattle.order.proofs.Runs.{first_same, first_le}
use Rattle.planes_faces.specs.Key.{key_by}
use Rattle.planes_faces.specs.Numbers.{number_of, corner_in, place_in, Numbered}
use Rattle.planes_faces.proofs.Numbers.{number_same, key_ranged}

module _ (area : List Float) (n : ℕ) (scale : Float) (k : ℕ → ℕ) (id : List ℕ)
    (a : (i : ℕ) → i < n → k i ≡ number_of (key_by scale (vec_at_of area n i)))
    (b : (i : ℕ) → i < n → k (n + i) ≡ number_of (key_by scale (vec_at_of area n (i + 3 * n))))
    (c : (i : ℕ) → i < n → k (2 * n + i) ≡ number_of (key_by scale (vec_at_of area n (i + 6 * n))))
    (first : (j : ℕ) → j < 3 * n → get_or id j 0 ≡ first_at k j) where
  place_low : (e i : ℕ) → i < n → place_in n e i < 3 * n
  unfolding place_in
  place_low zero i l = omega arith
  place_low (suc zero) i l = omega arith
  place_low (suc (suc e)) i l = omega arith

  key_at_lem : (e i : ℕ) → i < n → k (place_in n e i) ≡ number_of (key_by scale (corner_in area n e i))
  unfolding place_in corner_in
  key_at_lem zero i l = a i l
  key_at_lem (suc zero) i l = b i l
  key_at_lem (suc (suc e)) i l = c i l

  pub numbered : Numbered (key_by scale) area n n id
  numbered =
      record {
        same = λ e d i j le ld li lj.
            rw (first (place_in n e i) (place_low e i li), first (place_in n d j) (place_low d j lj))
            (first_same k (place_in n e i) (place_in n d j)
            ∙ rw (key_at_lem e i li, key_at_lem d j lj) (sym (number_same (key_by scale (corner_in area n e i)) (key_by scale (corner_in area n d j)) (key_ranged scale (corner_in area n e i)) (key_ranged scale (corner_in area n d j)))));
        low = λ j l. rw (first j l) (lt_of_le_of_lt (first_le k j) l);
      }
