-- The bytes say what `Fated` says, for candidates as a search finds them, and no other bytes do.
--     fated          `fates_of` has `Fated`
--     only_fates     bytes that have `Fated` are those of `fates_of`
use Prim.Native.Nat.{ℕ, zero, suc, ◌+◌, ◌-◌, ◌≤◌, ◌<◌}
use mathlib.Core.Path.{◌≡◌, refl, sym, ap, subst, ◌∙◌}
use mathlib.Core.Bool.{Bool, true, false, cond}
use mathlib.Core.Logic.{◌⊎◌, inl, inr, ⊎_elim, ◌↔◌}
use mathlib.Core.List.{List, [], ◌∷◌}
use native.Mathlib.Omega.{arith}
use lib.Ieee.{Float}
use lib.ListN.{length, get_or}
use lib.Seq.{take_all, ext_get_or}
use Rattle.ranking.specs.declared.Candidate.{Candidate}
use Rattle.ranking.specs.Lists.{Has, ahead}
use Rattle.ranking.specs.Candidate.{better, duplicates, ranked}
use Rattle.ranking.specs.Listed.{Listed}
use Rattle.ranking.proofs.Members.{has_take}
use Rattle.ranking.proofs.Laws.{number_one, ranked_listed}
use Rattle.fates.specs.Fates.{numbered, whole_list, duplicate_fate, cut_fate, fate_in, fates_from, fates_of, byte_of, Judged, AllFound, Doubled, Fated}
use Rattle.fates.proofs.Zeros.{numbered_has, has_numbered, zeros_all}

-- ---- the bytes by their places

pub fates_length : (own : ℕ → ℕ) (whole taps : List Candidate) (n k : ℕ) → length (fates_from own whole taps n k) ≡ k
unfolding fates_from
fates_length own whole taps n zero = refl
fates_length own whole taps n (suc k) = ap suc (fates_length own whole taps (suc n) k)

pub fates_at :
    (own : ℕ → ℕ) (whole taps : List Candidate) (n k i : ℕ) → i < k →
    get_or (fates_from own whole taps n k) i 0 ≡ fate_in whole taps (own (n + i)) (n + i)
unfolding fates_from
fates_at own whole taps n zero i h = absurd (omega arith)
fates_at own whole taps n (suc k) zero h = let z : n ≡ n + 0 = omega arith in ap (λ (m : ℕ). fate_in whole taps (own m) m) z
fates_at own whole taps n (suc k) (suc i) h =
    let z : suc n + i ≡ n + suc i = omega arith in
    fates_at own whole taps (suc n) k i (omega arith) ∙ ap (λ (m : ℕ). fate_in whole taps (own m) m) z

byte_is : (own : ℕ → ℕ) (whole taps : List Candidate) (k n : ℕ) → 1 ≤ n → n ≤ k → byte_of (fates_from own whole taps 1 k) n ≡ fate_in whole taps (own n) n
byte_is own whole taps k n l h =
    let z : 1 + (n - 1) ≡ n = omega arith in
    fates_at own whole taps 1 k (n - 1) (omega arith) ∙ ap (λ (m : ℕ). fate_in whole taps (own m) m) z

-- ---- the list before its cut

ahead_few : (c : Candidate) (l : List Candidate) → ahead better c l ≤ length l
unfolding ahead
ahead_few c [] = omega arith
ahead_few c (k ∷ l) = go (better k c) (ahead_few c l)
  where
    go : (b : Bool) → ahead better c l ≤ length l → cond b 1 0 + ahead better c l ≤ suc (length l)
    go true h = omega arith
    go false h = omega arith

module _ (own : ℕ → ℕ) (speed rate : Float) (limit : ℕ) (cs : List Candidate) (images : ℕ) (j : Judged own images cs) where
  abbrev whole : List Candidate
  whole = whole_list speed rate cs

  abbrev taps : List Candidate
  taps = ranked speed rate limit cs

  whole_listed : Listed speed rate (suc (length whole)) cs whole
  whole_listed =
      subst (λ (l : List Candidate). Listed speed rate (suc (length whole)) cs l) (take_all (suc (length whole)) whole (omega arith))
      (ranked_listed speed rate (suc (length whole)) cs j.rankable j.once)

  taps_listed : Listed speed rate limit cs taps
  taps_listed = ranked_listed speed rate limit cs j.rankable j.once

  pub in_whole : (c : Candidate) → Has c whole → Has c cs
  in_whole c h = ((whole_listed.exactly c).0 h).among

  in_taps : (c : Candidate) → Has c taps → Has c cs
  in_taps c h = ((taps_listed.exactly c).0 h).among

  -- of two candidates of one number there is one
  same : (c d : Candidate) → Has c cs → Has d cs → d.number ≡ c.number → d ≡ c
  same c d h i e = sym (number_one cs j.once c d h i (sym e))

  told_taps : (c : Candidate) → Has c cs → numbered c.number taps ≡ true → Has c taps
  told_taps c h e = let r = numbered_has c.number taps e in subst (λ (x : Candidate). Has x taps) (same c r.0 h (in_taps r.0 r.1) r.2) r.1

  told_whole : (c : Candidate) → Has c cs → numbered c.number whole ≡ true → Has c whole
  told_whole c h e = let r = numbered_has c.number whole e in subst (λ (x : Candidate). Has x whole) (same c r.0 h (in_whole r.0 r.1) r.2) r.1

  -- one of the list doubles c, or none does
  abbrev Choice : Candidate → List Candidate → Type 0
  Choice c l =
      ((k : Candidate) × Has k l × (better k c ≡ true) × (duplicates speed rate k c ≡ true))
      ⊎ ((k : Candidate) → Has k l → better k c ≡ true → duplicates speed rate k c ≡ false)

  doubling : (c : Candidate) (l : List Candidate) → Choice c l
  doubling c [] = inr (λ k h b. absurd h)
  doubling c (d ∷ l) = go (better d c) refl (duplicates speed rate d c) refl (doubling c l)
    where
      never : ◌≡◌ {A = Bool} false true → ⊥
      never e = let z : ◌≡◌ {A = ℕ} 0 1 = cc in omega arith

      go : (a : Bool) → better d c ≡ a → (b : Bool) → duplicates speed rate d c ≡ b → Choice c l → Choice c (d ∷ l)
      go true e true f r = inl (d, inl refl, e, f)
      go true e false f r =
          ⊎_elim (λ w. inl (w.0, inr w.1, w.2, w.3))
          (λ g. inr (λ k h b. ⊎_elim (λ q. ap (λ (x : Candidate). duplicates speed rate x c) q ∙ f) (λ i. g k i b) h)) r
      go false e t f r =
          ⊎_elim (λ w. inl (w.0, inr w.1, w.2, w.3))
          (λ g. inr (λ k h b. ⊎_elim (λ q. absurd (never (sym e ∙ sym (ap (λ (x : Candidate). better x c) q) ∙ b))) (λ i. g k i b) h)) r

  -- a candidate that is not kept is doubled, and one that is kept is not
  left_out : (c : Candidate) → Has c cs → (Has c whole → ⊥) → Doubled speed rate whole c
  left_out c h n =
      ⊎_elim (λ w. record { by = w.0; there = w.1; ahead_of = w.2; alike = w.3 })
      (λ f.
      let few = ahead_few c whole in
      absurd (n ((whole_listed.exactly c).1 (record { among = h; fresh = f; room = omega arith })))) (doubling c whole)

  not_both : (c : Candidate) → Has c whole → Doubled speed rate whole c → ⊥
  not_both c h d =
      let z : ◌≡◌ {A = Bool} false true = sym (((whole_listed.exactly c).0 h).fresh d.by d.there d.ahead_of) ∙ d.alike in
      let n : ◌≡◌ {A = ℕ} 0 1 = cc in
      omega arith

  -- the byte of a candidate
  byte : (c : Candidate) → Has c cs → byte_of (fates_of own speed rate limit cs images) c.number ≡ cond (numbered c.number taps) 0 (cond (numbered c.number whole) cut_fate duplicate_fate)
  byte c h =
      byte_is own whole taps images c.number (j.low c h) (j.high c h)
      ∙ ap (λ (f : ℕ). fate_in whole taps f c.number) (j.passed c h)

  -- by what the two lists have of it
  by_lists :
      (c : Candidate) → Has c cs → (P : ℕ → Type 0) → (Has c taps → P 0) → (Has c whole → (Has c taps → ⊥) → P cut_fate) → ((Has c whole → ⊥) → P duplicate_fate) →
      P (byte_of (fates_of own speed rate limit cs images) c.number)
  by_lists c h P kept cut double =
      subst P (sym (byte c h)) (go (numbered c.number taps) refl (numbered c.number whole) refl)
    where
      out : (l : List Candidate) → numbered c.number l ≡ false → Has c l → ⊥
      out l e i = let z : ◌≡◌ {A = Bool} false true = sym e ∙ has_numbered c l i in let n : ◌≡◌ {A = ℕ} 0 1 = cc in omega arith

      go : (a : Bool) → numbered c.number taps ≡ a → (b : Bool) → numbered c.number whole ≡ b → P (cond a 0 (cond b cut_fate duplicate_fate))
      go true e b f = kept (told_taps c h e)
      go false e true f = cut (told_whole c h f) (out taps e)
      go false e false f = double (out whole f)

  pub fated : Fated own speed rate limit cs images (fates_of own speed rate limit cs images)
  fated =
      record {
        count = fates_length own whole taps 1 images;
        failed = λ n l h f. byte_is own whole taps images n l h ∙ own_first (own n) n f;
        tap = λ c h. by_lists c h (λ (b : ℕ). (b ≡ 0) ↔ Has c taps)
            (λ k. ((λ e. k), (λ i. refl)))
            (λ w n. ((λ e. absurd (let z : ◌≡◌ {A = ℕ} 9 0 = e in omega arith)), (λ i. absurd (n i))))
            (λ n. ((λ e. absurd (let z : ◌≡◌ {A = ℕ} 8 0 = e in omega arith)), (λ i. absurd (n (has_take c limit whole i)))));
        duplicate = λ c h. by_lists c h (λ (b : ℕ). (b ≡ duplicate_fate) ↔ Doubled speed rate whole c)
            (λ k. ((λ e. absurd (let z : ◌≡◌ {A = ℕ} 0 8 = e in omega arith)), (λ d. absurd (not_both c (has_take c limit whole k) d))))
            (λ w n. ((λ e. absurd (let z : ◌≡◌ {A = ℕ} 9 8 = e in omega arith)), (λ d. absurd (not_both c w d))))
            (λ n. ((λ e. left_out c h n), (λ d. refl)));
        cut = λ c h. by_lists c h (λ (b : ℕ). (b ≡ cut_fate) ↔ (Has c whole × (Has c taps → ⊥)))
            (λ k. ((λ e. absurd (let z : ◌≡◌ {A = ℕ} 0 9 = e in omega arith)), (λ w. absurd (w.1 k))))
            (λ w n. ((λ e. (w, n)), (λ v. refl)))
            (λ n. ((λ e. absurd (let z : ◌≡◌ {A = ℕ} 8 9 = e in omega arith)), (λ v. absurd (n v.0))));
        zeros =
            zeros_all own whole taps images taps_listed.once (λ c i. j.low c (in_taps c i)) (λ c i. j.high c (in_taps c i))
            (λ c i. j.passed c (in_taps c i));
      }
    where
      own_first : (f n : ℕ) → (f ≡ 0 → ⊥) → fate_in whole taps f n ≡ f
      own_first zero n h = absurd (h refl)
      own_first (suc f) n h = refl

  -- ---- no other bytes

  -- the byte of a candidate, in whatever list has `Fated`
  fated_byte :
      (bs : List ℕ) → Fated own speed rate limit cs images bs → (c : Candidate) → Has c cs →
      byte_of bs c.number ≡ byte_of (fates_of own speed rate limit cs images) c.number
  fated_byte bs f c h =
      by_lists c h (λ (b : ℕ). byte_of bs c.number ≡ b) (λ k. (f.tap c h).1 k) (λ w n. (f.cut c h).1 (w, n)) (λ n. (f.duplicate c h).1 (left_out c h n))

  pub only_fates : AllFound own images cs → (bs : List ℕ) → Fated own speed rate limit cs images bs → bs ≡ fates_of own speed rate limit cs images
  only_fates all bs f =
      ext_get_or 0 bs (fates_of own speed rate limit cs images) (f.count ∙ sym (fates_length own whole taps 1 images))
      (λ i h.
      let c = f.count in
      let e : i + 1 - 1 ≡ i = omega arith in
      subst (λ (m : ℕ). get_or bs m 0 ≡ get_or (fates_of own speed rate limit cs images) m 0) e (go (own (i + 1)) refl (i + 1) refl (omega arith) (omega arith)))
    where
      go :
          (o : ℕ) {p : ℕ} → own p ≡ o → (n : ℕ) → p ≡ n → 1 ≤ n → n ≤ images → byte_of bs n ≡ byte_of (fates_of own speed rate limit cs images) n
      go zero q n r l h =
          let w = all n l h (ap own (sym r) ∙ q) in
          subst (λ (m : ℕ). byte_of bs m ≡ byte_of (fates_of own speed rate limit cs images) m) w.2 (fated_byte bs f w.0 w.1)
      go (suc o) q n r l h =
          let some : own n ≡ 0 → ⊥ = λ z. let y = ap own (sym r) ∙ q in omega (arith, y, z) in
          f.failed n l h some ∙ sym (fated.failed n l h some)
