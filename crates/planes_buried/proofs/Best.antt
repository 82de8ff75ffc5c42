-- The largest triangle of each patch: one pass over the triangles, which meets each in its patch (`Meeting`), gives for each patch the fold
-- over its own triangles, and that fold is the definition's (`largest_is`).
use mathlib.Core.Path.{◌≡◌, refl, sym, ap, ◌∙◌}
use mathlib.Core.Logic.{◌⊎◌}
use mathlib.Core.Bool.{Bool, true, false, cond}
use mathlib.Core.List.{List, [], ◌∷◌, foldl, foldl-append}
use Prim.Native.Nat.{ℕ, zero, suc, ◌+◌, ◌<◌, ◌≤◌}
use native.Mathlib.Nat.{not-suc-le-zero, le_of_suc-le-suc}
use native.Mathlib.Numerals.{add-one}
use native.Mathlib.Omega.{arith}
use lib.Dec.{eqb}
use lib.Ieee.{Float, nan, neg, lt}
use lib.ListN.{length, get_or, set}
use lib.Seq.{get_or-set_same, get_or-set_other}
use borrow.Author.Tests.{eq-eqb, ne_eqb}
use Rattle.float.specs.Literals.{one32}
use Rattle.float.proofs.Numbers.{by_order}
use Rattle.order.proofs.Positions.{Under}
use Rattle.geometry.specs.declared.Triangle.{Triangle}
use Rattle.geometry.specs.Triangle.{triangle_area_of}
use Rattle.order.specs.Runs.{head_or, up_to}
use Rattle.order.proofs.Stable.{by-eq}
use Rattle.planes_patches.specs.Lists.{keep_if, filter_by}
use Rattle.planes_patches.specs.Triangles.{nth_triangle}
use Rattle.planes_patches.specs.Rows.{none_of, tris_in, Numbered}
use Rattle.planes_patches.proofs.Lists.{filter_more}
use Rattle.planes_buried.specs.Buried.{larger_of}
use Rattle.planes_buried.specs.Passes.{best_at, best_of, or_zero}

-- an element that is there, whatever stands for one that is not
pub get_d_any : {A : Type 0} (l : List A) (i : ℕ) (a b : A) → i < length l → get_or l i a ≡ get_or l i b
get_d_any [] i a b h = absurd (not-suc-le-zero h)
get_d_any (x ∷ l) zero a b h = refl
get_d_any (x ∷ l) (suc i) a b h = get_d_any l i a b (le_of_suc-le-suc h)

pub numbered_at : (of : List ℕ) (m np i : ℕ) → Numbered of m np → i < m → m ≤ length of → (get_or of i 0 < np) ⊎ (get_or of i 0 ≡ none_of)
unfolding Numbered
numbered_at of m np i d h l = rw (get_d_any of i 0 none_of (omega arith)) (d i h)

-- ---- reset

pub reset_more : (areas : List Float) (largest : List ℕ) (p : ℕ) (x : Float) (v : ℕ) → p < length areas → p < length largest
    → ((q : ℕ) → q < p → best_at areas largest q ≡ (x, v)) → (q : ℕ) → q < p + 1 → best_at (set areas p x) (set largest p v) q ≡ (x, v)
unfolding best_at
reset_more areas largest p x v h g f q l =
    by-eq q p (λ e. rw (e, get_or-set_same areas p x nan h, get_or-set_same largest p v 0 g))
    (λ d. rw (get_or-set_other areas p q x nan d, get_or-set_other largest p q v 0 d) (f q (by_order p q (λ w. absurd (d (omega arith))) (λ w. w))))

-- ---- larger

module _ (areas : List Float) (largest : List ℕ) (p t : ℕ) (a : Float) where
  larger_first : (ts : List Triangle) (x : Float) (l : ℕ) → a ≡ triangle_area_of (nth_triangle ts t) → lt x a ≡ true → best_of ts (x, l) t ≡ (a, t)
  unfolding best_of larger_of
  larger_first ts x l e f = go (eqb l none_of)
    where
      go : (b : Bool) → larger_of ts (cond b (x, t) (x, l)) t ≡ (a, t)
      go true = rw (← e, f)
      go false = rw (← e, f)

  pub best_larger : p < length areas → p < length largest → lt (get_or areas p nan) a ≡ true → (ts : List Triangle) → a ≡ triangle_area_of (nth_triangle ts t)
      → best_at (set areas p a) (set largest p t) p ≡ best_of ts (best_at areas largest p) t
  unfolding best_at
  best_larger h g f ts e = rw (get_or-set_same areas p a nan h, get_or-set_same largest p t 0 g) (sym (larger_first ts (get_or areas p nan) (get_or largest p 0) e f))

  pub best_met : p < length largest → lt (get_or areas p nan) a ≡ false → get_or largest p 0 ≡ none_of → (ts : List Triangle) → a ≡ triangle_area_of (nth_triangle ts t)
      → best_at areas (set largest p t) p ≡ best_of ts (best_at areas largest p) t
  unfolding best_at best_of larger_of
  best_met g f n ts e = rw (get_or-set_same largest p t 0 g, eq-eqb (get_or largest p 0) none_of n, ← e, f)

  pub best_stays : lt (get_or areas p nan) a ≡ false → (get_or largest p 0 ≡ none_of → ⊥) → (ts : List Triangle) → a ≡ triangle_area_of (nth_triangle ts t)
      → best_at areas largest p ≡ best_of ts (best_at areas largest p) t
  unfolding best_at best_of larger_of
  best_stays f n ts e = rw (ne_eqb (get_or largest p 0) none_of n, ← e, f)

  pub best_both : (q : ℕ) → (q ≡ p → ⊥) → best_at (set areas p a) (set largest p t) q ≡ best_at areas largest q
  unfolding best_at
  best_both q d = rw (get_or-set_other areas p q a nan d, get_or-set_other largest p q t 0 d)

  pub best_other : (q : ℕ) → (q ≡ p → ⊥) → best_at areas (set largest p t) q ≡ best_at areas largest q
  unfolding best_at
  best_other q d = rw (get_or-set_other largest p q t 0 d)

-- ---- the pass

-- the fold over the triangles of patch p among the first t
abbrev pub best_to : List Triangle → List ℕ → ℕ → ℕ → Float × ℕ
best_to ts of t p = foldl (best_of ts) (neg one32, none_of) (tris_in of t p)

pub record Meeting (ts : List Triangle) (of : List ℕ) (m np : ℕ) (areas₀ : List Float) (largest₀ : List ℕ) (areas : List Float) (largest : List ℕ) (t : ℕ) : Type 0 where
  pub within : t ≤ m
  pub len_areas : length areas ≡ length areas₀
  pub len_largest : length largest ≡ length largest₀
  pub best : (p : ℕ) → p < np → best_at areas largest p ≡ best_to ts of t p

best_none : (ts : List Triangle) (of : List ℕ) (p : ℕ) → best_to ts of 0 p ≡ (neg one32, none_of)
unfolding tris_in up_to filter_by
best_none ts of p = refl

pub meeting_none : (ts : List Triangle) (of : List ℕ) (m np : ℕ) (areas₀ : List Float) (largest₀ : List ℕ) (areas : List Float) (largest : List ℕ)
    → length areas ≡ length areas₀ → length largest ≡ length largest₀ → ((p : ℕ) → p < np → best_at areas largest p ≡ (neg one32, none_of))
    → Meeting ts of m np areas₀ largest₀ areas largest 0
meeting_none ts of m np areas₀ largest₀ areas largest a l e =
    record { within = omega arith; len_areas = a; len_largest = l; best = λ p h. e p h ∙ sym (best_none ts of p) }

best_more : (ts : List Triangle) (of : List ℕ) (t p : ℕ) → best_to ts of (suc t) p ≡ cond (eqb (get_or of t none_of) p) (best_of ts (best_to ts of t p) t) (best_to ts of t p)
unfolding tris_in
best_more ts of t p =
    ap (foldl (best_of ts) (neg one32, none_of)) (filter_more (λ i. eqb (get_or of i none_of) p) t)
    ∙ foldl-append (best_of ts) (neg one32, none_of) (tris_in of t p) (keep_if (eqb (get_or of t none_of) p) t []) ∙ go (eqb (get_or of t none_of) p)
  where
    go : (b : Bool) → foldl (best_of ts) (best_to ts of t p) (keep_if b t []) ≡ cond b (best_of ts (best_to ts of t p) t) (best_to ts of t p)
    go true = refl
    go false = refl

pub meeting_more : (ts : List Triangle) (of : List ℕ) (m np : ℕ) (areas₀ : List Float) (largest₀ : List ℕ) (areas : List Float) (largest : List ℕ) (t : ℕ) (areas' : List Float) (largest' : List ℕ)
    → Meeting ts of m np areas₀ largest₀ areas largest t → t < m → m ≤ length of → length areas' ≡ length areas → length largest' ≡ length largest
    → ((q : ℕ) → q < np → best_at areas' largest' q ≡ cond (eqb (get_or of t 0) q) (best_of ts (best_at areas largest q) t) (best_at areas largest q))
    → Meeting ts of m np areas₀ largest₀ areas' largest' (t + 1)
meeting_more ts of m np areas₀ largest₀ areas largest t areas' largest' w h g a l e =
    record {
      within = omega arith;
      len_areas = a ∙ w.len_areas;
      len_largest = l ∙ w.len_largest;
      best = λ p i.
          let here : get_or of t 0 ≡ get_or of t none_of = get_d_any of t 0 none_of (omega arith) in
          e p i ∙ ap (λ (v : ℕ). cond (eqb v p) (best_of ts (best_at areas largest p) t) (best_at areas largest p)) here
          ∙ ap (λ (b : Float × ℕ). cond (eqb (get_or of t none_of) p) (best_of ts b t) b) (w.best p i)
          ∙ sym (ap (λ (k : ℕ). best_to ts of k p) (add-one t) ∙ best_more ts of t p);
    }

pub meeting_all : (ts : List Triangle) (of : List ℕ) (m np : ℕ) (areas₀ : List Float) (largest₀ : List ℕ) (areas : List Float) (largest : List ℕ) (t : ℕ)
    → Meeting ts of m np areas₀ largest₀ areas largest t → m ≤ t → (p : ℕ) → p < np → best_at areas largest p ≡ best_to ts of m p
meeting_all ts of m np areas₀ largest₀ areas largest t w h p i =
    let l = w.within in
    let e : t ≡ m = omega arith in
    w.best p i ∙ ap (λ (k : ℕ). best_to ts of k p) e

-- ---- the definition's fold

larger_low : (ts : List Triangle) (m i : ℕ) (s : Float × ℕ) → s.1 < m → i < m → (larger_of ts s i).1 < m
unfolding larger_of
larger_low ts m i s h g = go (lt s.0 (triangle_area_of (nth_triangle ts i)))
  where
    go : (b : Bool) → (cond b (triangle_area_of (nth_triangle ts i), i) s).1 < m
    go true = g
    go false = h

fold_low : (ts : List Triangle) (m : ℕ) (xs : List ℕ) (s : Float × ℕ) → s.1 < m → Under m xs → (foldl (larger_of ts) s xs).1 < m
unfolding Under
fold_low ts m [] s h u = h
fold_low ts m (x ∷ xs) s h u = fold_low ts m xs (larger_of ts s x) (larger_low ts m x s h u.0) u.1

best_is : (ts : List Triangle) (x : ℕ) (s : Float × ℕ) → best_of ts s x ≡ larger_of ts (cond (eqb s.1 none_of) (s.0, x) s) x
unfolding best_of
best_is ts x s = refl

fold_same : (ts : List Triangle) (xs : List ℕ) (s : Float × ℕ) → s.1 < none_of → Under none_of xs → foldl (best_of ts) s xs ≡ foldl (larger_of ts) s xs
unfolding Under
fold_same ts [] s h u = refl
fold_same ts (x ∷ xs) s h u = ap (λ (b : Float × ℕ). foldl (best_of ts) b xs) (one ts x s h) ∙ fold_same ts xs (larger_of ts s x) (larger_low ts none_of x s h u.0) u.1
  where
    two : (ts : List Triangle) (x : ℕ) (s : Float × ℕ) (b : Bool) → b ≡ false → larger_of ts (cond b (s.0, x) s) x ≡ larger_of ts s x
    two ts x s b e = rw e

    one : (ts : List Triangle) (x : ℕ) (s : Float × ℕ) → s.1 < none_of → best_of ts s x ≡ larger_of ts s x
    one ts x s h = best_is ts x s ∙ two ts x s (eqb s.1 none_of) (ne_eqb s.1 none_of (λ e. omega arith))

pub largest_is : (ts : List Triangle) (l : List ℕ) → Under none_of l → or_zero (foldl (best_of ts) (neg one32, none_of) l).1 ≡ (foldl (larger_of ts) (neg one32, head_or 0 l) l).1
unfolding or_zero head_or Under
largest_is ts [] u = refl
largest_is ts (x ∷ xs) u =
    let first : best_of ts (neg one32, none_of) x ≡ larger_of ts (neg one32, x) x = best_is ts x (neg one32, none_of) in
    let low : (larger_of ts (neg one32, x) x).1 < none_of = larger_low ts none_of x (neg one32, x) u.0 u.0 in
    let same : foldl (best_of ts) (best_of ts (neg one32, none_of) x) xs ≡ foldl (larger_of ts) (larger_of ts (neg one32, x) x) xs =
    ap (λ (b : Float × ℕ). foldl (best_of ts) b xs) first ∙ fold_same ts xs (larger_of ts (neg one32, x) x) low u.1 in
    let under = fold_low ts none_of xs (larger_of ts (neg one32, x) x) low u.1 in
    rw (same, ne_eqb (foldl (larger_of ts) (larger_of ts (neg one32, x) x) xs).1 none_of (λ e. omega arith))

pub largest_low : (ts : List Triangle) (m : ℕ) (l : List ℕ) → Under m l → 0 < m → (foldl (larger_of ts) (neg one32, head_or 0 l) l).1 < m
unfolding head_or Under
largest_low ts m [] u h = h
largest_low ts m (x ∷ xs) u h = fold_low ts m (x ∷ xs) (neg one32, x) u.0 u
