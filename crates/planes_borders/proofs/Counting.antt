-- Counting the edges at the first edge of each: the loop of `count_uses` (`Counted`), and counts of lists.
use mathlib.Core.Path.{◌≡◌, refl, sym, ap, ◌∙◌}
use mathlib.Core.Bool.{Bool, true, false, cond}
use mathlib.Core.List.{List, [], ◌∷◌, ◌++◌}
use Prim.Native.Nat.{ℕ, zero, suc, ◌+◌, ◌<◌, ◌≤◌}
use native.Mathlib.Omega.{arith}
use native.Mathlib.Numerals.{add-one}
use lib.Dec.{eqb}
use lib.ListN.{length, get_or, set, replicate, length-set}
use lib.Seq.{get_or-set_same, get_or-set_other}
use borrow.Author.Tests.{eq-eqb, ne_eqb}
use Rattle.order.specs.Sort.{Below}
use Rattle.order.specs.Runs.{up_to}
use Rattle.order.proofs.Stable.{by-eq}
use Rattle.planes_patches.specs.Lists.{count_by}
use Rattle.planes_borders.specs.Uses.{count_in}

-- 1 where the test passed
abbrev pub bit : Bool → ℕ
bit true = 1
bit false = 0

pub count_cons : {A : Type 0} (p : A → Bool) (x : A) (xs : List A) → count_by p (x ∷ xs) ≡ bit (p x) + count_by p xs
unfolding count_by
count_cons p x xs = go (p x) (count_by p xs)
  where
    go : (b : Bool) (n : ℕ) → cond b (suc n) n ≡ bit b + n
    go true n = omega arith
    go false n = omega arith

pub count_append : {A : Type 0} (p : A → Bool) (xs ys : List A) → count_by p (xs ++ ys) ≡ count_by p xs + count_by p ys
unfolding count_by
count_append p [] ys = omega arith
count_append p (x ∷ xs) ys = go (p x) (count_by p (xs ++ ys)) (count_by p xs) (count_by p ys) (count_append p xs ys)
  where
    go : (b : Bool) (n k l : ℕ) → n ≡ k + l → cond b (suc n) n ≡ cond b (suc k) k + l
    go true n k l e = omega arith
    go false n k l e = e

pub count_more : (p : ℕ → Bool) (e : ℕ) → count_by p (up_to (e + 1)) ≡ count_by p (up_to e) + bit (p e)
unfolding up_to count_by
count_more p e =
    let one : count_by p (e ∷ []) ≡ bit (p e) + 0 = count_cons p e [] in
    let both : count_by p (up_to e ++ (e ∷ [])) ≡ count_by p (up_to e) + count_by p (e ∷ []) = count_append p (up_to e) (e ∷ []) in
    ap (λ (k : ℕ). count_by p (up_to k)) (add-one e) ∙ both ∙ ap (λ (z : ℕ). count_by p (up_to e) + z) (one ∙ omega arith)

bit_le : (b : Bool) → bit b ≤ 1
bit_le true = omega arith
bit_le false = omega arith

pub count_le : (p : ℕ → Bool) (e : ℕ) → count_by p (up_to e) ≤ e
unfolding up_to count_by
count_le p zero = omega arith
count_le p (suc e) =
    let more : count_by p (up_to (e + 1)) ≡ count_by p (up_to e) + bit (p e) = count_more p e in
    let less : count_by p (up_to e) ≤ e = count_le p e in
    let one : bit (p e) ≤ 1 = bit_le (p e) in
    let le : count_by p (up_to (e + 1)) ≤ e + 1 = rw more (omega arith) in
    rw (add-one e) at le

-- two tests that agree below n
pub count_under : (p q : ℕ → Bool) (n : ℕ) → ((i : ℕ) → i < n → p i ≡ q i) → count_by p (up_to n) ≡ count_by q (up_to n)
unfolding up_to count_by
count_under p q zero e = refl
count_under p q (suc n) e =
    let less : count_by p (up_to n) ≡ count_by q (up_to n) = count_under p q n (λ i h. e i (omega arith)) in
    let last : p n ≡ q n = e n (omega arith) in
    let both : count_by p (up_to n) + bit (p n) ≡ count_by q (up_to n) + bit (q n) = rw (less, last) in
    let more : count_by p (up_to (n + 1)) ≡ count_by q (up_to (n + 1)) = count_more p n ∙ both ∙ sym (count_more q n) in
    rw (add-one n) at more

pub below_at : (n : ℕ) (xs : List ℕ) (i : ℕ) → Below n xs → i < length xs → get_or xs i 0 < n
unfolding Below
below_at n xs i b h = b i h

-- e of the edges are counted
pub record Counted (first uses : List ℕ) (e : ℕ) : Type 0 where
  pub few : e ≤ length first
  pub long : length uses ≡ length first
  pub each : (k : ℕ) → k < length first → get_or uses k 0 ≡ count_in first k e

zeros : (n k : ℕ) → ◌≡◌ {A = ℕ} (get_or (replicate n 0) k 0) 0
zeros zero k = refl
zeros (suc n) zero = refl
zeros (suc n) (suc k) = zeros n k

pub counted_none : (first uses : List ℕ) (n : ℕ) → length uses ≡ length first → uses ≡ replicate n 0 → Counted first uses 0
unfolding count_in count_by up_to
counted_none first uses n long e =
    record { few = omega arith; long = long; each = λ k h. ap (λ (l : List ℕ). get_or l k 0) e ∙ zeros n k }

pub counted_low : (first uses : List ℕ) (e k : ℕ) → Counted first uses e → k < length first → get_or uses k 0 ≤ e
unfolding count_in
counted_low first uses e k c h = rw (c.each k h) (count_le (λ d. eqb (get_or first d 0) k) e)

pub counted_more : (first uses : List ℕ) (e k v : ℕ) → Counted first uses e → e < length first → k ≡ get_or first e 0 → k < length first
    → v ≡ get_or uses k 0 + 1 → Counted first (set uses k v) (e + 1)
unfolding count_in
counted_more first uses e k v c l is low more =
    let long = c.long in
    record {
      few = omega arith;
      long = length-set uses k v ∙ c.long;
      each = λ j h.
          let one : count_by (λ d. eqb (get_or first d 0) j) (up_to (e + 1)) ≡ count_by (λ d. eqb (get_or first d 0) j) (up_to e) + bit (eqb (get_or first e 0) j) = count_more (λ d. eqb (get_or first d 0) j) e in
          by-eq j k
          (λ s. let b : eqb (get_or first e 0) j ≡ true = eq-eqb (get_or first e 0) j (sym is ∙ sym s) in
          let there : get_or uses j 0 ≡ count_by (λ d. eqb (get_or first d 0) j) (up_to e) = c.each j h in
          let here : get_or (set uses k v) j 0 ≡ v = rw s (get_or-set_same uses k v 0 (omega arith)) in
          here ∙ more ∙ ap (λ (z : ℕ). get_or uses z 0 + 1) (sym s) ∙ ap (λ (z : ℕ). z + 1) there ∙ sym (one ∙ ap (λ (x : Bool). count_by (λ d. eqb (get_or first d 0) j) (up_to e) + bit x) b))
          (λ d. let b : eqb (get_or first e 0) j ≡ false = ne_eqb (get_or first e 0) j (λ s. d (sym s ∙ sym is)) in
          let none : count_by (λ d. eqb (get_or first d 0) j) (up_to e) + 0 ≡ count_by (λ d. eqb (get_or first d 0) j) (up_to e) = omega arith in
          get_or-set_other uses k j v 0 d ∙ c.each j h ∙ sym (one ∙ ap (λ (x : Bool). count_by (λ d. eqb (get_or first d 0) j) (up_to e) + bit x) b ∙ none));
    }

pub counted_all : (first uses : List ℕ) (e : ℕ) → Counted first uses e → length first ≤ e → (k : ℕ) → k < length first → get_or uses k 0 ≡ count_in first k (length first)
counted_all first uses e c l k h =
    let f = c.few in
    let s : e ≡ length first = omega arith in
    c.each k h ∙ ap (count_in first k) s
