-- Bytes that are stored as `unranked` and `marked` say are the fates.
--     marks_are_fates
use Prim.Native.Nat.{ℕ, zero, suc, ◌+◌, ◌-◌, ◌≤◌, ◌<◌}
use mathlib.Core.Path.{◌≡◌, refl, sym, ap, subst, ◌∙◌}
use mathlib.Core.Bool.{Bool, true, false, cond, ◌||◌}
use mathlib.Core.Logic.{inl, inr}
use mathlib.Core.List.{List, [], ◌∷◌}
use native.Mathlib.Omega.{arith}
use lib.Dec.{eqb}
use lib.Ieee.{Float}
use lib.ListN.{length, get_or, set, length-set}
use lib.Seq.{ext_get_or, get_or-set_same, get_or-set_other}
use borrow.Author.Tests.{eqb-true, eqb-false}
use Rattle.ranking.specs.declared.Candidate.{Candidate}
use Rattle.ranking.specs.Lists.{Has}
use Rattle.ranking.specs.Candidate.{ranked}
use Rattle.ranking.proofs.Members.{has_take}
use Rattle.fates.specs.Fates.{numbered, whole_list, cut_fate, fate_in, fates_of, unranked, marked, Judged}
use Rattle.fates.proofs.Zeros.{numbered_has}
use Rattle.fates.proofs.Bytes.{fates_length, fates_at, in_whole}

marked_length : (v : ℕ) (cs : List Candidate) (bs : List ℕ) → length (marked v cs bs) ≡ length bs
unfolding marked
marked_length v [] bs = refl
marked_length v (c ∷ cs) bs = marked_length v cs (set bs (c.number - 1) v) ∙ length-set bs (c.number - 1) v

-- a place is marked where its number is one of the list's
marked_at :
    (v : ℕ) (cs : List Candidate) (bs : List ℕ) (i : ℕ) → i < length bs → ((c : Candidate) → Has c cs → 1 ≤ c.number) →
    get_or (marked v cs bs) i 0 ≡ cond (numbered (i + 1) cs) v (get_or bs i 0)
unfolding marked numbered
marked_at v [] bs i h low = refl
marked_at v (c ∷ cs) bs i h low =
    let l = low c (inl refl) in
    let there : i < length (set bs (c.number - 1) v) = subst (λ (n : ℕ). i < n) (sym (length-set bs (c.number - 1) v)) h in
    marked_at v cs (set bs (c.number - 1) v) i there (λ d j. low d (inr j)) ∙ go (eqb c.number (i + 1)) refl (numbered (i + 1) cs) l
  where
    go :
        (a : Bool) → eqb c.number (i + 1) ≡ a → (b : Bool) → 1 ≤ c.number →
        cond b v (get_or (set bs (c.number - 1) v) i 0) ≡ cond (a || b) v (get_or bs i 0)
    go true e true l = refl
    go false e true l = refl
    go true e false l =
        let q = eqb-true c.number (i + 1) e in
        let z : c.number - 1 ≡ i = omega arith in
        ap (λ (k : ℕ). get_or (set bs k v) i 0) z ∙ get_or-set_same bs i v 0 h
    go false e false l =
        let q = eqb-false c.number (i + 1) e in
        get_or-set_other bs (c.number - 1) i v 0 (λ z. q (omega arith))

unranked_length : (own : ℕ → ℕ) (n k : ℕ) → length (unranked own n k) ≡ k
unfolding unranked
unranked_length own n zero = refl
unranked_length own n (suc k) = ap suc (unranked_length own (suc n) k)

unranked_at : (own : ℕ → ℕ) (n k i : ℕ) → i < k → get_or (unranked own n k) i 0 ≡ fate_in [] [] (own (n + i)) (n + i)
unfolding unranked
unranked_at own n zero i h = absurd (omega arith)
unranked_at own n (suc k) zero h = let z : n ≡ n + 0 = omega arith in ap (λ (m : ℕ). fate_in [] [] (own m) m) z
unranked_at own n (suc k) (suc i) h =
    let z : suc n + i ≡ n + suc i = omega arith in
    unranked_at own (suc n) k i (omega arith) ∙ ap (λ (m : ℕ). fate_in [] [] (own m) m) z

-- ---- all of them

-- a byte that was marked twice is the fate, where no list has a number whose image fails
twice :
    (whole taps : List Candidate) (f n : ℕ) → (numbered n whole ≡ true → f ≡ 0) → (numbered n taps ≡ true → f ≡ 0) →
    cond (numbered n taps) 0 (cond (numbered n whole) cut_fate (fate_in [] [] f n)) ≡ fate_in whole taps f n
unfolding numbered
twice whole taps zero n p q = refl
twice whole taps (suc f) n p q = go (numbered n taps) refl (numbered n whole) refl
  where
    go : (a : Bool) → numbered n taps ≡ a → (b : Bool) → numbered n whole ≡ b → cond a 0 (cond b cut_fate (suc f)) ≡ suc f
    go true e b g = absurd (let z = q e in omega arith)
    go false e true g = absurd (let z = p g in omega arith)
    go false e false g = refl

module _ (own : ℕ → ℕ) (speed rate : Float) (limit : ℕ) (cs : List Candidate) (images : ℕ) (j : Judged own images cs) where
  abbrev whole : List Candidate
  whole = whole_list speed rate cs

  abbrev taps : List Candidate
  taps = ranked speed rate limit cs

  inside : (c : Candidate) → Has c whole → Has c cs
  inside c h = in_whole own speed rate limit cs images j c h

  tapped : (c : Candidate) → Has c taps → Has c cs
  tapped c h = inside c (has_take c limit whole h)

  passes_in : (l : List Candidate) → ((c : Candidate) → Has c l → Has c cs) → (n : ℕ) → numbered n l ≡ true → own n ≡ 0
  passes_in l into n e = let r = numbered_has n l e in sym (ap own r.2) ∙ j.passed r.0 (into r.0 r.1)

  pub marks_are_fates : marked 0 taps (marked cut_fate whole (unranked own 1 images)) ≡ fates_of own speed rate limit cs images
  marks_are_fates =
      ext_get_or 0 (marked 0 taps kept) (fates_of own speed rate limit cs images) (long ∙ sym (fates_length own whole taps 1 images))
      (λ i h. at i (subst (λ (n : ℕ). i < n) long h))
    where
      kept : List ℕ
      kept = marked cut_fate whole (unranked own 1 images)

      first : length kept ≡ images
      first = marked_length cut_fate whole (unranked own 1 images) ∙ unranked_length own 1 images

      long : length (marked 0 taps kept) ≡ images
      long = marked_length 0 taps kept ∙ first

      at : (i : ℕ) → i < images → get_or (marked 0 taps kept) i 0 ≡ get_or (fates_of own speed rate limit cs images) i 0
      at i h =
          let z : 1 + i ≡ i + 1 = omega arith in
          marked_at 0 taps kept i (subst (λ (n : ℕ). i < n) (sym first) h) (λ c k. j.low c (tapped c k))
          ∙ ap (cond (numbered (i + 1) taps) 0)
          (marked_at cut_fate whole (unranked own 1 images) i (subst (λ (n : ℕ). i < n) (sym (unranked_length own 1 images)) h) (λ c k. j.low c (inside c k))
          ∙ ap (cond (numbered (i + 1) whole) cut_fate) (unranked_at own 1 images i h ∙ ap (λ (m : ℕ). fate_in [] [] (own m) m) z))
          ∙ twice whole taps (own (i + 1)) (i + 1) (passes_in whole inside (i + 1)) (passes_in taps tapped (i + 1))
          ∙ sym (fates_at own whole taps 1 images i h ∙ ap (λ (m : ℕ). fate_in whole taps (own m) m) z)
