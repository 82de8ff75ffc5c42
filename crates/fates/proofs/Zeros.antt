-- The zeros among the bytes are as many as the taps: each tap has the number of one image, and no two have the same.
--     zeros_all     the zeros among the bytes of k images are as many as the taps, where no two of these have one number, and each that of an image that passes
use Prim.Native.Nat.{ℕ, zero, suc, ◌+◌, ◌≤◌, ◌<◌}
use mathlib.Core.Path.{◌≡◌, refl, sym, ap, ◌∙◌}
use mathlib.Core.Bool.{Bool, true, false, cond, ◌||◌}
use mathlib.Core.Logic.{inl, inr, ⊎_elim}
use mathlib.Core.List.{List, [], ◌∷◌}
use native.Mathlib.Omega.{arith}
use lib.Dec.{eqb, leb}
use lib.ListN.{length}
use borrow.Author.Tests.{eqb-true, eqb-false, eq-eqb, ne_eqb, le-leb, lt-leb, leb-true, leb-false}
use Rattle.ranking.specs.declared.Candidate.{Candidate}
use Rattle.ranking.specs.Lists.{Has}
use Rattle.ranking.specs.Listed.{Once}
use Rattle.fates.specs.Fates.{numbered, fate_in, fates_from, zeros_in, cut_fate, duplicate_fate}

-- ---- a number in a list

pub numbered_has : (n : ℕ) (l : List Candidate) → numbered n l ≡ true → (c : Candidate) × Has c l × (c.number ≡ n)
unfolding numbered
numbered_has n [] e = absurd (let z : ◌≡◌ {A = ℕ} 0 1 = cc in omega arith)
numbered_has n (d ∷ l) e = go (eqb d.number n) refl e (λ h. numbered_has n l h)
  where
    go :
        (b : Bool) → eqb d.number n ≡ b → (b || numbered n l) ≡ true →
        (numbered n l ≡ true → (c : Candidate) × Has c l × (c.number ≡ n)) → (c : Candidate) × Has c (d ∷ l) × (c.number ≡ n)
    go true t e f = (d, inl refl, eqb-true d.number n t)
    go false t e f = let r = f e in (r.0, inr r.1, r.2)

pub has_numbered : (c : Candidate) (l : List Candidate) → Has c l → numbered c.number l ≡ true
unfolding numbered
has_numbered c [] h = absurd h
has_numbered c (d ∷ l) h =
    ⊎_elim (λ q. ap (λ (b : Bool). b || numbered c.number l) (eq-eqb d.number c.number (sym (ap (λ (x : Candidate). x.number) q))))
    (λ i. later (eqb d.number c.number) (numbered c.number l) (has_numbered c l i)) h
  where
    later : (a b : Bool) → b ≡ true → (a || b) ≡ true
    later true b e = refl
    later false b e = e

pub none_numbered : (n : ℕ) (l : List Candidate) → ((c : Candidate) → Has c l → c.number ≡ n → ⊥) → numbered n l ≡ false
none_numbered n l f = go (numbered n l) refl
  where
    go : (b : Bool) → numbered n l ≡ b → b ≡ false
    go true e = absurd (let r = numbered_has n l e in f r.0 r.1 r.2)
    go false e = refl

-- ---- taps numbered from n on

-- 1 where it is so
abbrev bit : Bool → ℕ
bit b = cond b 1 0

unfoldable from : ℕ → List Candidate → ℕ
from n [] = 0
from n (c ∷ cs) = bit (leb n c.number) + from n cs

from_all : (n : ℕ) (l : List Candidate) → ((c : Candidate) → Has c l → n ≤ c.number) → from n l ≡ length l
unfolding from
from_all n [] f = refl
from_all n (c ∷ l) f =
    let e : bit (leb n c.number) ≡ 1 = ap bit (le-leb n c.number (f c (inl refl))) in
    let r : from n l ≡ length l = from_all n l (λ d i. f d (inr i)) in
    omega arith

from_none : (n : ℕ) (l : List Candidate) → ((c : Candidate) → Has c l → c.number < n) → from n l ≡ 0
unfolding from
from_none n [] f = refl
from_none n (c ∷ l) f =
    let e : bit (leb n c.number) ≡ 0 = ap bit (lt-leb n c.number (f c (inl refl))) in
    let r : from n l ≡ 0 = from_none n l (λ d i. f d (inr i)) in
    omega arith

-- one more where n is the number of one
from_step : (n : ℕ) (l : List Candidate) → Once l → from n l ≡ bit (numbered n l) + from (suc n) l
unfolding from numbered
from_step n [] o = refl
from_step n (c ∷ l) o = go (eqb c.number n) refl (from_step n l o.1)
  where
    go :
        (b : Bool) → eqb c.number n ≡ b → from n l ≡ bit (numbered n l) + from (suc n) l →
        bit (leb n c.number) + from n l ≡ bit (b || numbered n l) + (bit (leb (suc n) c.number) + from (suc n) l)
    go true t r =
        let q : c.number ≡ n = eqb-true c.number n t in
        let here : bit (leb n c.number) ≡ 1 = ap bit (le-leb n c.number (omega arith)) in
        let past : bit (leb (suc n) c.number) ≡ 0 = ap bit (lt-leb (suc n) c.number (omega arith)) in
        let none : bit (numbered n l) ≡ 0 = ap bit (none_numbered n l (λ d i e. o.0 d i (q ∙ sym e))) in
        omega arith
    go false t r =
        let far = eqb-false c.number n t in
        both (leb n c.number) refl far r
      where
        both :
            (a : Bool) → leb n c.number ≡ a → (c.number ≡ n → ⊥) → from n l ≡ bit (numbered n l) + from (suc n) l →
            bit (leb n c.number) + from n l ≡ bit (numbered n l) + (bit (leb (suc n) c.number) + from (suc n) l)
        both true e far r =
            let le = leb-true n c.number e in
            let here : bit (leb n c.number) ≡ 1 = ap bit e in
            let past : bit (leb (suc n) c.number) ≡ 1 = ap bit (le-leb (suc n) c.number (omega (arith, far))) in
            omega arith
        both false e far r =
            let lt = leb-false n c.number e in
            let here : bit (leb n c.number) ≡ 0 = ap bit e in
            let past : bit (leb (suc n) c.number) ≡ 0 = ap bit (lt-leb (suc n) c.number (omega arith)) in
            omega arith

-- ---- the bytes

-- a byte is 0 where its image's number is a tap's, whose path passes
byte_zero :
    (whole taps : List Candidate) (f n : ℕ) → (numbered n taps ≡ true → f ≡ 0) →
    bit (eqb (fate_in whole taps f n) 0) ≡ bit (numbered n taps)
byte_zero whole taps (suc f) n p = ap bit (ne_eqb (suc f) 0 (λ z. omega arith)) ∙ go (numbered n taps) refl
  where
    go : (b : Bool) → numbered n taps ≡ b → bit false ≡ bit b
    go true e = absurd (let z = p e in omega arith)
    go false e = refl
byte_zero whole taps zero n p = go (numbered n taps) (numbered n whole)
  where
    go : (a b : Bool) → bit (eqb (cond a 0 (cond b cut_fate duplicate_fate)) 0) ≡ bit a
    go true b = refl
    go false true = refl
    go false false = refl

zeros_taps :
    (own : ℕ → ℕ) (whole taps : List Candidate) (n k : ℕ) → Once taps → ((c : Candidate) → Has c taps → c.number < n + k) →
    ((c : Candidate) → Has c taps → own c.number ≡ 0) → zeros_in (fates_from own whole taps n k) ≡ from n taps
unfolding fates_from zeros_in
zeros_taps own whole taps n zero o h p = sym (from_none n taps (λ c i. let l = h c i in omega arith))
zeros_taps own whole taps n (suc k) o h p =
    let tail : zeros_in (fates_from own whole taps (suc n) k) ≡ from (suc n) taps =
    zeros_taps own whole taps (suc n) k o (λ c i. let l = h c i in omega arith) p in
    let head : bit (eqb (fate_in whole taps (own n) n) 0) ≡ bit (numbered n taps) =
    byte_zero whole taps (own n) n (λ e. let r = numbered_has n taps e in sym (ap own r.2) ∙ p r.0 r.1) in
    let step = from_step n taps o in
    omega arith

pub zeros_all :
    (own : ℕ → ℕ) (whole taps : List Candidate) (k : ℕ) → Once taps → ((c : Candidate) → Has c taps → 1 ≤ c.number) →
    ((c : Candidate) → Has c taps → c.number ≤ k) → ((c : Candidate) → Has c taps → own c.number ≡ 0) →
    zeros_in (fates_from own whole taps 1 k) ≡ length taps
zeros_all own whole taps k o low high p =
    zeros_taps own whole taps 1 k o (λ c i. let l = high c i in omega arith) p ∙ from_all 1 taps low
