-- The law of the search's fold, over any state W and any visit that counts one: a run up to the limit is the visits of the first
-- sequences, as many as the limit has left. By induction over the sequences.
use Prim.Native.Nat.{ℕ, zero, suc, ◌-◌, ◌≤◌, ◌<◌}
use mathlib.Core.Path.{◌≡◌, refl, ap, ◌∙◌}
use mathlib.Core.Bool.{Bool}
use mathlib.Core.List.{List, [], ◌∷◌, foldl}
use native.Mathlib.Decide.{dec_lt}
use native.Mathlib.Omega.{arith}
use lib.ListN.{take}
use borrow.Author.Tests.{lt-ltb, le-ltb}
use Rattle.sequences.specs.Run.{pick, step, run}

module _ {W : Type 0} (nodes : W → ℕ) (visit : W → List ℕ → W) (limit : ℕ) where
  pub step_under : (w : W) (q : List ℕ) → nodes w < limit → step nodes visit limit w q ≡ visit w q
  step_under w q h = ap (λ (b : Bool). pick b (visit w q) w) (lt-ltb (nodes w) limit h)

  pub step_full : (w : W) (q : List ℕ) → limit ≤ nodes w → step nodes visit limit w q ≡ w
  step_full w q h = ap (λ (b : Bool). pick b (visit w q) w) (le-ltb (nodes w) limit h)

  pub run_full : (w : W) (qs : List (List ℕ)) → limit ≤ nodes w → run nodes visit limit w qs ≡ w
  run_full w [] h = refl
  run_full w (q ∷ qs) h = ap (λ (v : W). run nodes visit limit v qs) (step_full w q h) ∙ run_full w qs h

  -- where each visit counts one, the run is the visits of the first sequences, as many as the limit has left
  pub run_take :
      ((w : W) (q : List ℕ) → nodes (visit w q) ≡ suc (nodes w)) → (w : W) (qs : List (List ℕ)) →
      run nodes visit limit w qs ≡ foldl visit w (take (limit - nodes w) qs)
  run_take one w [] = refl_take (limit - nodes w)
    where
      refl_take : (n : ℕ) → w ≡ foldl visit w (take n [])
      refl_take zero = refl
      refl_take (suc n) = refl
  run_take one w (q ∷ qs) = split (dec_lt (nodes w) limit) (run_take one (visit w q) qs)
    where
      split :
          Dec (nodes w < limit) → run nodes visit limit (visit w q) qs ≡ foldl visit (visit w q) (take (limit - nodes (visit w q)) qs) →
          run nodes visit limit w (q ∷ qs) ≡ foldl visit w (take (limit - nodes w) (q ∷ qs))
      split (yes h) e =
          let k : limit - nodes w ≡ suc (limit - nodes (visit w q)) = rw (one w q) (omega arith) in
          rw (step_under w q h, k) e
      split (no h) e =
          let k : limit - nodes w ≡ 0 = omega arith in
          rw k (run_full w (q ∷ qs) (omega arith))
