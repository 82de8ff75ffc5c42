-- The keys by which `planes_groups` and `planes_importance` sort have the Rust's order: larger floats first, and of equal ones the lower number.
--     descending_first     for floats of the format that are not NaN, and numbers below 2^32
use Prim.Native.Nat.{ℕ, ◌+◌, ◌-◌, ◌*◌, ◌<◌}
use mathlib.Core.Path.{◌≡◌, refl, sym, ◌∙◌}
use mathlib.Core.Bool.{Bool, true, false, cond, not}
use native.Mathlib.Omega.{arith}
use lib.Dec.{T, ltb}
use lib.Ieee.{Float, binary32, fits, is_nan}
use borrow.Author.Tests.{ltb-true, ltb-false, lt-ltb, le-ltb}
use Rattle.float.specs.Key.{key_of_float}
use Rattle.ranking.specs.Candidate.{decides}
use Rattle.ranking.proofs.Keys.{lt_key, key_small}
use Rattle.planes_groups.specs.Groups.{rank_of, key_for_falling}
use Rattle.rust_words.specs.Falling.{comes_first}

-- of two pairs of numbers, by whole numbers
pairs :
    (a b i j : ℕ) → a < 4294967296 → b < 4294967296 → i < 4294967296 → j < 4294967296 →
    ltb ((4294967295 - a) * 4294967296 + i) ((4294967295 - b) * 4294967296 + j) ≡ decides (ltb b a) (ltb a b) (ltb i j)
pairs a b i j ha hb hi hj = go (ltb b a) refl (ltb a b) refl (ltb i j) refl
  where
    go :
        (p : Bool) → ltb b a ≡ p → (q : Bool) → ltb a b ≡ q → (r : Bool) → ltb i j ≡ r →
        ltb ((4294967295 - a) * 4294967296 + i) ((4294967295 - b) * 4294967296 + j) ≡ decides p q r
    go true e q f r g =
        let less = ltb-true b a e in
        lt-ltb ((4294967295 - a) * 4294967296 + i) ((4294967295 - b) * 4294967296 + j) (omega arith)
    go false e true f r g =
        let less = ltb-true a b f in
        le-ltb ((4294967295 - a) * 4294967296 + i) ((4294967295 - b) * 4294967296 + j) (omega arith)
    go false e false f true g =
        let u = ltb-false b a e in
        let v = ltb-false a b f in
        let less = ltb-true i j g in
        lt-ltb ((4294967295 - a) * 4294967296 + i) ((4294967295 - b) * 4294967296 + j) (omega arith)
    go false e false f false g =
        let u = ltb-false b a e in
        let v = ltb-false a b f in
        let more = ltb-false i j g in
        le-ltb ((4294967295 - a) * 4294967296 + i) ((4294967295 - b) * 4294967296 + j) (omega arith)

ranked_number : (x : Float) → T (not (is_nan x)) → rank_of x ≡ key_of_float x
unfolding rank_of
ranked_number x h = go (is_nan x) h
  where
    go : (b : Bool) → T (not b) → cond b 0 (key_of_float x) ≡ key_of_float x
    go true h = absurd h
    go false h = refl

pub descending_first :
    (x y : Float) (i j : ℕ) → T (fits binary32 x) → T (fits binary32 y) → T (not (is_nan x)) → T (not (is_nan y)) → i < 4294967296 → j < 4294967296 →
    ltb (key_for_falling x i) (key_for_falling y j) ≡ comes_first x i y j
unfolding key_for_falling
descending_first x y i j fx fy nx ny hi hj =
    (λ k. ltb ((4294967295 - ranked_number x nx k) * 4294967296 + i) ((4294967295 - ranked_number y ny k) * 4294967296 + j))
    ∙ pairs (key_of_float x) (key_of_float y) i j (key_small x fx) (key_small y fy) hi hj
    ∙ sym (λ k. decides (lt_key y x fy fx ny nx k) (lt_key x y fx fy nx ny k) (ltb i j))
