-- Values copied into an area, and the row of a plane that they make.
use mathlib.Core.Path.{◌≡◌, refl, ap, ◌∙◌}
use mathlib.Core.Bool.{Bool, true, false, cond, not}
use mathlib.Core.Logic.{◌⊎◌, inl, inr, ⊎_elim}
use mathlib.Core.List.{List, ◌++◌}
use Prim.Native.Nat.{ℕ, ◌+◌, ◌-◌, ◌*◌, ◌<◌, ◌≤◌}
use native.Mathlib.Omega.{arith}
use lib.Dec.{eqb}
use lib.Ieee.{Float, nan}
use lib.ListN.{length, get_or, take, drop}
use lib.Seq.{length-take-le}
use borrow.Rule.Slice.PartMut.{put_mid}
use Rattle.std.proofs.lemmas.List.{get_or-append_right, get_or_append_left, get_or-take, get_or-drop}
use borrow.Author.Tests.{eq-eqb, ne_eqb}
use Rattle.float.proofs.Numbers.{by_order}
use Rattle.mirror.specs.declared.PlaneRow.{PlaneRow}
use Rattle.mirror.specs.Rows.{vec_of_floats, row_of}
use Rattle.planes_fit.specs.Rows.{floats_of_row, words_of}

-- a part of an area that was lent and came back as ys: ys stands there, and what is not of the part is as it was
module _ {A : Type 0} (at n : ℕ) (area ys : List A) (d : A) (long : length ys ≡ n) (within : at + n ≤ length area) where
  pub stands : (k : ℕ) → k < n → get_or (put_mid at n area ys) (at + k) d ≡ get_or ys k d
  stands k h =
      let size : length (take at area) ≡ at = length-take-le at area (omega (arith, within)) in
      get_or-append_right (take at area) (ys ++ drop n (drop at area)) at (at + k) d size (omega arith)
      ∙ ap (λ (i : ℕ). get_or (ys ++ drop n (drop at area)) i d) (let e : at + k - at ≡ k = omega arith in e)
      ∙ get_or_append_left ys (drop n (drop at area)) d k (omega (arith, long, h))

  pub beside : (q : ℕ) → (q < at) ⊎ (at + n ≤ q) → get_or (put_mid at n area ys) q d ≡ get_or area q d
  beside q = ⊎_elim
      (λ h.
      let size : length (take at area) ≡ at = length-take-le at area (omega (arith, within)) in
      get_or_append_left (take at area) (ys ++ drop n (drop at area)) d q (omega (arith, size, h)) ∙ get_or-take at area q d h)
      (λ h.
      let size : length (take at area) ≡ at = length-take-le at area (omega (arith, within)) in
      get_or-append_right (take at area) (ys ++ drop n (drop at area)) at q d size (omega arith)
      ∙ get_or-append_right ys (drop n (drop at area)) n (q - at) d long (omega (arith, h))
      ∙ get_or-drop n (drop at area) (q - at - n) d ∙ get_or-drop at area (n + (q - at - n)) d
      ∙ ap (λ (i : ℕ). get_or area i d) (let e : at + (n + (q - at - n)) ≡ q = omega (arith, h) in e))

-- ---- the row of a plane

flag_is : (b : Bool) → not (eqb (cond b 1 0) 0) ≡ b
flag_is true = ap not (ne_eqb 1 0 (λ e. absurd (omega arith)))
flag_is false = ap not (eq-eqb 0 0 refl)

module _ (floats₀ floats : List Float) (words₀ words : List ℕ) (g : ℕ) where
  pub row_stored :
      (r : PlaneRow) → ((k : ℕ) → k < 12 → get_or floats (12 * g + k) nan ≡ get_or (floats_of_row r) k nan) → ((k : ℕ) → k < 5 → get_or words (5 * g + k) 0 ≡ get_or (words_of r) k 0) →
      row_of floats words g ≡ r
  unfolding row_of vec_of_floats
  row_stored r f w =
      let at : (i k : ℕ) → i ≡ 12 * g + k → k < 12 → get_or floats i nan ≡ get_or (floats_of_row r) k nan = λ i k e l. ap (λ (j : ℕ). get_or floats j nan) e ∙ f k l in
      let in_words : (i k : ℕ) → i ≡ 5 * g + k → k < 5 → get_or words i 0 ≡ get_or (words_of r) k 0 = λ i k e l. ap (λ (j : ℕ). get_or words j 0) e ∙ w k l in
      rw (
        at (12 * g) 0 (omega arith) (omega arith),
        at (12 * g + 1) 1 (omega arith) (omega arith),
        at (12 * g + 2) 2 (omega arith) (omega arith),
        at (12 * g + 3) 3 (omega arith) (omega arith),
        at (12 * g + 4) 4 (omega arith) (omega arith),
        at (12 * g + 4 + 1) 5 (omega arith) (omega arith),
        at (12 * g + 4 + 2) 6 (omega arith) (omega arith),
        at (12 * g + 7) 7 (omega arith) (omega arith),
        at (12 * g + 7 + 1) 8 (omega arith) (omega arith),
        at (12 * g + 7 + 2) 9 (omega arith) (omega arith),
        at (12 * g + 10) 10 (omega arith) (omega arith),
        at (12 * g + 11) 11 (omega arith) (omega arith),
        in_words (5 * g) 0 (omega arith) (omega arith),
        in_words (5 * g + 1) 1 (omega arith) (omega arith),
        in_words (5 * g + 2) 2 (omega arith) (omega arith),
        in_words (5 * g + 3) 3 (omega arith) (omega arith),
        in_words (5 * g + 4) 4 (omega arith) (omega arith),
        flag_is r.fitted,
      )

  pub row_other :
      ((q : ℕ) → (q < 12 * g) ⊎ (12 * g + 12 ≤ q) → get_or floats q nan ≡ get_or floats₀ q nan) → ((q : ℕ) → (q < 5 * g) ⊎ (5 * g + 5 ≤ q) → get_or words q 0 ≡ get_or words₀ q 0) →
      (h : ℕ) → (h ≡ g → ⊥) → row_of floats words h ≡ row_of floats₀ words₀ h
  unfolding row_of vec_of_floats
  row_other f w h d =
      let at : (i k : ℕ) → i ≡ 12 * h + k → k < 12 → get_or floats i nan ≡ get_or floats₀ i nan = λ i k e l. rw e (f (12 * h + k) (away k l)) in
      let in_words : (i k : ℕ) → i ≡ 5 * h + k → k < 5 → get_or words i 0 ≡ get_or words₀ i 0 = λ i k e l. rw e (w (5 * h + k) (near k l)) in
      rw (
        at (12 * h) 0 (omega arith) (omega arith),
        at (12 * h + 1) 1 (omega arith) (omega arith),
        at (12 * h + 2) 2 (omega arith) (omega arith),
        at (12 * h + 3) 3 (omega arith) (omega arith),
        at (12 * h + 4) 4 (omega arith) (omega arith),
        at (12 * h + 4 + 1) 5 (omega arith) (omega arith),
        at (12 * h + 4 + 2) 6 (omega arith) (omega arith),
        at (12 * h + 7) 7 (omega arith) (omega arith),
        at (12 * h + 7 + 1) 8 (omega arith) (omega arith),
        at (12 * h + 7 + 2) 9 (omega arith) (omega arith),
        at (12 * h + 10) 10 (omega arith) (omega arith),
        at (12 * h + 11) 11 (omega arith) (omega arith),
        in_words (5 * h) 0 (omega arith) (omega arith),
        in_words (5 * h + 1) 1 (omega arith) (omega arith),
        in_words (5 * h + 2) 2 (omega arith) (omega arith),
        in_words (5 * h + 3) 3 (omega arith) (omega arith),
        in_words (5 * h + 4) 4 (omega arith) (omega arith),
      )
    where
      away : (k : ℕ) → k < 12 → (12 * h + k < 12 * g) ⊎ (12 * g + 12 ≤ 12 * h + k)
      away k l = by_order g h (λ le. by_order h g (λ ge. absurd (d (omega arith))) (λ gt. inr (omega arith))) (λ lt. inl (omega arith))

      near : (k : ℕ) → k < 5 → (5 * h + k < 5 * g) ⊎ (5 * g + 5 ≤ 5 * h + k)
      near k l = by_order g h (λ le. by_order h g (λ ge. absurd (d (omega arith))) (λ gt. inr (omega arith))) (λ lt. inl (omega arith))
