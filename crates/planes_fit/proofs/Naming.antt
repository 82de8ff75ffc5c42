-- The loops that number patches and triangles: what each holds after some turns, one turn more, and at the end.
use mathlib.Core.Path.{◌≡◌, refl, sym, ap, ◌∙◌}
use mathlib.Core.Bool.{Bool, true, false, cond, ◌||◌}
use mathlib.Core.Logic.{◌⊎◌, inl, inr}
use mathlib.Core.List.{List, [], ◌∷◌}
use Prim.Native.Nat.{ℕ, zero, suc, ◌+◌, ◌-◌, ◌%◌, ◌<◌, ◌≤◌}
use native.Mathlib.Nat.{not-suc-le-zero}
use native.Mathlib.Omega.{arith}
use lib.Dec.{eqb}
use lib.ListN.{length, get_or, set, take, replicate, length-set}
use lib.Seq.{get_or-set_same, get_or-set_other, take_all, ext_get_or}
use borrow.Author.Tests.{eq-eqb, ne_eqb}
use Rattle.laws.proofs.Bools.{or_none}
use Rattle.laws.proofs.Lists.{get_or_inside}
use Rattle.float.proofs.Numbers.{by_order}
use Rattle.order.specs.Sort.{Below}
use Rattle.order.specs.Runs.{any_by}
use Rattle.order.proofs.Stable.{by-eq}
use Rattle.planes_patches.specs.Rows.{none_of, Numbered}
use Rattle.planes_links.specs.Words.{has, lows, most_triangles}
use Rattle.planes_links.proofs.Filters.{has_more}
use Rattle.planes_fit.specs.Rows.{group_in, Grouped, before_of}

or_true : (b : Bool) → b || true ≡ true
or_true true = refl
or_true false = refl

-- ---- one group

-- the first k patches of a group have its number
pub record Named (group : List ℕ) (number : ℕ) (col₀ col : List ℕ) (k : ℕ) : Type 0 where
  pub within : k ≤ length group
  pub len : length col ≡ length col₀
  pub done : (p : ℕ) → get_or col p 0 ≡ cond (has p (take k group)) number (get_or col₀ p 0)

pub named_none : (group : List ℕ) (number : ℕ) (col : List ℕ) → Named group number col col 0
unfolding any_by
named_none group number col = record { within = omega arith; len = refl; done = λ p. refl }

pub named_more :
    (group : List ℕ) (number : ℕ) (col₀ col : List ℕ) (k : ℕ) → Named group number col₀ col k → k < length group → Below (length col₀) group →
    Named group number col₀ (set col (get_or group k 0) number) (k + 1)
unfolding Below
named_more group number col₀ col k f h b =
    let x = get_or group k 0 in
    let inside : x < length col = omega (arith, b k h, f.len) in
    let both : (p : ℕ) → has p (take (k + 1) group) ≡ has p (take k group) || eqb p x = λ p. has_more p k group h in
    record {
      within = omega arith;
      len = length-set col x number ∙ f.len;
      done = λ p.
          by-eq p x
          (λ e. ap (λ (q : ℕ). get_or (set col x number) q 0) e ∙ get_or-set_same col x number 0 inside
          ∙ sym (ap (λ (t : Bool). cond t number (get_or col₀ p 0)) (both p ∙ ap (λ (t : Bool). has p (take k group) || t) (eq-eqb p x e) ∙ or_true (has p (take k group)))))
          (λ d. get_or-set_other col x p number 0 d ∙ f.done p
          ∙ sym (ap (λ (t : Bool). cond t number (get_or col₀ p 0)) (both p ∙ ap (λ (t : Bool). has p (take k group) || t) (ne_eqb p x d) ∙ or_none (has p (take k group)))));
    }

pub named_all :
    (group : List ℕ) (number : ℕ) (col₀ col : List ℕ) (k : ℕ) → Named group number col₀ col k → length group ≤ k → (p : ℕ) →
    get_or col p 0 ≡ cond (has p group) number (get_or col₀ p 0)
named_all group number col₀ col k f h p = f.done p ∙ ap (λ (l : List ℕ). cond (has p l) number (get_or col₀ p 0)) (take_all k group h)

-- ---- all groups

-- the patches of the first g groups have their group's number plus one
pub record Assigned (queue starts col : List ℕ) (g : ℕ) : Type 0 where
  pub bound : (p : ℕ) → get_or col p 0 ≤ g
  pub is : (p h : ℕ) → h < g → eqb (get_or col p 0) (suc h) ≡ has p (group_in queue starts h)

none_at : (k p : ℕ) → ◌≡◌ {A = ℕ} (get_or (replicate k 0) p 0) 0
none_at zero p = refl
none_at (suc k) zero = refl
none_at (suc k) (suc p) = none_at k p

pub assigned_none : (queue starts col : List ℕ) (k : ℕ) → col ≡ replicate k 0 → Assigned queue starts col 0
assigned_none queue starts col k e =
    record { bound = λ p. let z = ap (λ (l : List ℕ). get_or l p 0) e ∙ none_at k p in omega arith; is = λ p h l. absurd (not-suc-le-zero l) }

pub assigned_more :
    (queue starts : List ℕ) (np ng : ℕ) (col col2 : List ℕ) (g : ℕ) → Grouped queue starts np ng → g < ng → Assigned queue starts col g →
    ((p : ℕ) → get_or col2 p 0 ≡ cond (has p (group_in queue starts g)) (g + 1) (get_or col p 0)) → Assigned queue starts col2 (g + 1)
assigned_more queue starts np ng col col2 g grouped l a e =
    record { bound = λ p. upper p (has p (group_in queue starts g)) (e p); is = λ p h i. go p h i (has p (group_in queue starts g)) refl (e p) }
  where
    upper : (p : ℕ) (b : Bool) → get_or col2 p 0 ≡ cond b (g + 1) (get_or col p 0) → get_or col2 p 0 ≤ g + 1
    upper p true d = omega (arith, d)
    upper p false d = let o = a.bound p in omega (arith, d, o)

    go :
        (p h : ℕ) → h < g + 1 → (b : Bool) → has p (group_in queue starts g) ≡ b → get_or col2 p 0 ≡ cond b (g + 1) (get_or col p 0) →
        eqb (get_or col2 p 0) (suc h) ≡ has p (group_in queue starts h)
    go p h i true in_g d =
        by-eq h g
        (λ s. eq-eqb (get_or col2 p 0) (suc h) (omega (arith, d, s)) ∙ sym (ap (λ (k : ℕ). has p (group_in queue starts k)) s ∙ in_g))
        (λ n. ne_eqb (get_or col2 p 0) (suc h) (λ w. n (omega (arith, d, w))) ∙ sym (grouped.apart g h p l (by_order g h (λ u. absurd (n (omega arith))) (λ u. u)) in_g))
    go p h i false in_g d =
        by-eq h g
        (λ s. let o = a.bound p in ne_eqb (get_or col2 p 0) (suc h) (λ w. absurd (omega (arith, d, s, o, w))) ∙ sym (ap (λ (k : ℕ). has p (group_in queue starts k)) s ∙ in_g))
        (λ n. ap (λ (v : ℕ). eqb v (suc h)) d ∙ a.is p h (by_order g h (λ u. absurd (n (omega arith))) (λ u. u)))

-- ---- triangles

pub before_is : (v g : ℕ) → g < most_triangles → eqb (before_of v) g ≡ eqb v (suc g)
unfolding before_of
before_is zero g h = ne_eqb none_of g (λ e. absurd (omega arith)) ∙ sym (ne_eqb 0 (suc g) (λ e. absurd (omega arith)))
before_is (suc v) g h = by-eq v g (λ e. eq-eqb v g e ∙ sym (eq-eqb (suc v) (suc g) (ap suc e))) (λ d. ne_eqb v g d ∙ sym (ne_eqb (suc v) (suc g) (λ e. d (omega arith))))

before_numbered : (v n : ℕ) → v ≤ n → (before_of v < n) ⊎ (before_of v ≡ none_of)
unfolding before_of
before_numbered zero n h = inr refl
before_numbered (suc v) n h = inl h

-- each triangle has the number of a plane, or none
pub planes_numbered :
    (of groups planes : List ℕ) (m ng : ℕ) → ((t : ℕ) → t < m → get_or planes t none_of ≡ before_of (get_or groups (get_or of t none_of) 0)) → ((p : ℕ) → get_or groups p 0 ≤ ng) → Numbered planes m ng
unfolding Numbered
planes_numbered of groups planes m ng planed bound t h = rw (planed t h) (before_numbered (get_or groups (get_or of t none_of) 0) ng (bound (get_or of t none_of)))

pub before_one : (v : ℕ) → (v ≡ 0 → ⊥) → v - 1 ≡ before_of v
unfolding before_of
before_one zero h = absurd (h refl)
before_one (suc v) h = omega arith

pub get_or_outside : (xs : List ℕ) (i d : ℕ) → length xs ≤ i → get_or xs i d ≡ d
get_or_outside [] i d h = refl
get_or_outside (x ∷ xs) zero d h = absurd (not-suc-le-zero h)
get_or_outside (x ∷ xs) (suc i) d h = get_or_outside xs i d (omega arith)

-- the first t triangles have the number of their plane
pub record Planed (of groups col₀ col : List ℕ) (m t : ℕ) : Type 0 where
  pub within : t ≤ m
  pub len : length col ≡ length col₀
  pub done : (i : ℕ) → i < t → get_or col i none_of ≡ before_of (get_or groups (get_or of i none_of) 0)

pub planed_none : (of groups col : List ℕ) (m : ℕ) → Planed of groups col col m 0
planed_none of groups col m = record { within = omega arith; len = refl; done = λ i l. absurd (not-suc-le-zero l) }

pub planed_more :
    (of groups col₀ col : List ℕ) (m t v : ℕ) → Planed of groups col₀ col m t → t < m → t < length of → t < length col → v ≡ before_of (get_or groups (get_or of t 0) 0) →
    Planed of groups col₀ (set col t v) m (t + 1)
planed_more of groups col₀ col m t v f h l r e =
    record {
      within = omega arith;
      len = length-set col t v ∙ f.len;
      done = λ i w.
          by-eq i t
          (λ s. ap (λ (j : ℕ). get_or (set col t v) j none_of) s ∙ get_or-set_same col t v none_of r ∙ e
          ∙ ap (λ (j : ℕ). before_of (get_or groups j 0)) (get_or_inside of t 0 none_of l ∙ ap (λ (j : ℕ). get_or of j none_of) (sym s)))
          (λ d. get_or-set_other col t i v none_of d ∙ f.done i (by_order t i (λ u. absurd (d (omega arith))) (λ u. u)));
    }

-- ---- words to their lower parts

pub lows_length : (xs : List ℕ) → length (lows xs) ≡ length xs
unfolding lows
lows_length [] = refl
lows_length (x ∷ xs) = ap suc (lows_length xs)

lows_at : (xs : List ℕ) (j : ℕ) → j < length xs → get_or (lows xs) j 0 ≡ get_or xs j 0 % 4096
unfolding lows
lows_at [] j h = absurd (not-suc-le-zero h)
lows_at (x ∷ xs) zero h = refl
lows_at (x ∷ xs) (suc j) h = lows_at xs j (omega arith)

-- the first i words are done
pub record Unpacked (xs ys : List ℕ) (i : ℕ) : Type 0 where
  pub len : length ys ≡ length xs
  pub done : (j : ℕ) → j < i → get_or ys j 0 ≡ get_or xs j 0 % 4096
  pub left : (j : ℕ) → i ≤ j → get_or ys j 0 ≡ get_or xs j 0

pub unpacked_none : (xs : List ℕ) → Unpacked xs xs 0
unpacked_none xs = record { len = refl; done = λ j l. absurd (not-suc-le-zero l); left = λ j l. refl }

pub unpacked_more : (xs ys : List ℕ) (i : ℕ) → Unpacked xs ys i → i < length ys → Unpacked xs (set ys i (get_or ys i 0 % 4096)) (i + 1)
unpacked_more xs ys i f h =
    let v = get_or ys i 0 % 4096 in
    record {
      len = length-set ys i v ∙ f.len;
      done = λ j l.
          by-eq j i
          (λ s. ap (λ (k : ℕ). get_or (set ys i v) k 0) s ∙ get_or-set_same ys i v 0 h ∙ ap (λ (k : ℕ). k % 4096) (f.left i (omega arith) ∙ ap (λ (k : ℕ). get_or xs k 0) (sym s)))
          (λ d. get_or-set_other ys i j v 0 d ∙ f.done j (by_order i j (λ u. absurd (d (omega arith))) (λ u. u)));
      left = λ j l. get_or-set_other ys i j v 0 (λ e. absurd (omega arith)) ∙ f.left j (omega arith);
    }

pub unpacked_all : (xs ys : List ℕ) (i : ℕ) → Unpacked xs ys i → length ys ≤ i → ys ≡ lows xs
unpacked_all xs ys i f h =
    let len = f.len in
    ext_get_or 0 ys (lows xs) (len ∙ sym (lows_length xs)) (λ j l. f.done j (omega arith) ∙ sym (lows_at xs j (omega arith)))
