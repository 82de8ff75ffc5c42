-- The triangles of a group: those of its patches, sorted, are the triangles whose plane number is the group's (`group_tris`).
use mathlib.Core.Path.{◌≡◌, refl, sym, ap, ◌∙◌}
use mathlib.Core.Bool.{Bool, true, false, ◌||◌, ◌&&◌}
use mathlib.Core.List.{List, [], ◌∷◌, ◌++◌, flat_map}
use Prim.Native.Nat.{ℕ, suc, ◌<◌}
use native.Mathlib.Omega.{arith}
use lib.Dec.{eqb, ltb}
use lib.ListN.{get_or}
use borrow.Author.Tests.{eq-eqb, lt-ltb, eqb-true}
use Rattle.laws.proofs.Bools.{or_first, or_second, or_right}
use Rattle.order.specs.Sort.{sort_by, Below, Perm, none, skip, swap, then}
use Rattle.order.specs.Runs.{any_by, up_to}
use Rattle.order.proofs.Stable.{sort_perm}
use Rattle.order.proofs.Positions.{under_up_to, under_below}
use Rattle.planes_patches.specs.Lists.{filter_by}
use Rattle.planes_patches.specs.Rows.{none_of, tris_in}
use Rattle.planes_links.specs.Words.{has, itself, dedup_after, dedup}
use Rattle.planes_links.proofs.Rising.{Rising, not_from, clash, filter_rising, up_to_rising, has_filter, has_up_to, after_new, sorted_set, perm_has}
use Rattle.order.proofs.Laws.{below_none, below_append}
use Rattle.planes_patches.proofs.Lists.{under_filter}
use Rattle.planes_links.proofs.Filters.{filter_below, eqb_turn}
use Rattle.planes_fit.specs.Rows.{PatchesOnce}

-- ---- lists in which no number stands twice

pub rising_once : (xs : List ℕ) → Rising xs → PatchesOnce xs
unfolding Rising PatchesOnce
rising_once [] r = tt
rising_once (x ∷ xs) r = (not_from x (suc x) xs (omega arith) r.0, rising_once xs r.1)

or_both : (a b : Bool) → a ≡ false → b ≡ false → a || b ≡ false
or_both a b e d = rw (e, d)

pub perm_once : {xs ys : List ℕ} → Perm xs ys → PatchesOnce xs → PatchesOnce ys
unfolding PatchesOnce any_by
perm_once none o = tt
perm_once (skip {x = x} p) o = (sym (perm_has x p) ∙ o.0, perm_once p o.1)
perm_once (swap {x = x} {y = y} {xs = xs}) o =
    (or_both (eqb y x) (has y xs) (eqb_turn y x ∙ or_first (eqb x y) (has x xs) o.0) o.1.0, (or_second (eqb x y) (has x xs) o.0, o.1.1))
perm_once (then p r) o = perm_once r (perm_once p o)

pub perm_turn : {xs ys : List ℕ} → Perm xs ys → Perm ys xs
perm_turn none = none
perm_turn (skip p) = skip (perm_turn p)
perm_turn swap = swap
perm_turn (then p r) = then (perm_turn r) (perm_turn p)

after_once : (last : ℕ) (xs : List ℕ) → has last xs ≡ false → PatchesOnce xs → dedup_after last xs ≡ xs
unfolding PatchesOnce dedup_after any_by
after_once last [] h o = refl
after_once last (x ∷ xs) h o =
    let differ : x ≡ last → ⊥ = λ e. clash (eq-eqb last x (sym e)) (or_first (eqb last x) (has last xs) h) in
    after_new last x xs differ ∙ ap (λ (l : List ℕ). x ∷ l) (after_once x xs o.0 o.1)

dedup_once : (xs : List ℕ) → PatchesOnce xs → dedup xs ≡ xs
unfolding PatchesOnce dedup
dedup_once [] o = refl
dedup_once (x ∷ xs) o = ap (λ (l : List ℕ). x ∷ l) (after_once x xs o.0 o.1)

-- sorted, it is the filter of the numbers below n
sorted_once : (n : ℕ) (xs : List ℕ) → Below n xs → PatchesOnce xs → sort_by itself xs ≡ filter_by (λ q. has q xs) (up_to n)
sorted_once n xs b o = sym (dedup_once (sort_by itself xs) (perm_once (perm_turn (sort_perm itself xs)) o)) ∙ sorted_set n xs b

pub has_append : (q : ℕ) (xs ys : List ℕ) → has q (xs ++ ys) ≡ has q xs || has q ys
unfolding any_by
has_append q [] ys = refl
has_append q (x ∷ xs) ys = rw (has_append q xs ys) (or_assoc (eqb q x) (has q xs) (has q ys))
  where
    or_assoc : (a b c : Bool) → a || (b || c) ≡ (a || b) || c
    or_assoc true b c = refl
    or_assoc false b c = refl

append_once : (xs ys : List ℕ) → PatchesOnce xs → PatchesOnce ys → ((q : ℕ) → has q xs ≡ true → has q ys ≡ false) → PatchesOnce (xs ++ ys)
unfolding PatchesOnce any_by
append_once [] ys o p d = p
append_once (x ∷ xs) ys o p d = (
  has_append x xs ys ∙ or_both (has x xs) (has x ys) o.0 (d x (ap (λ (b : Bool). b || has x xs) (eq-eqb x x refl))),
  append_once xs ys o.1 p (λ q h. d q (or_right (eqb q x) (has q xs) h)),
)

-- ---- the triangles of patches

module _ (of : List ℕ) (m : ℕ) where
  has_tris : (p t : ℕ) → has t (tris_in of m p) ≡ eqb (get_or of t none_of) p && ltb t m
  unfolding tris_in
  has_tris p t = has_filter (λ i. eqb (get_or of i none_of) p) t (up_to m) ∙ ap (λ (b : Bool). eqb (get_or of t none_of) p && b) (has_up_to m t)

  tris_once : (p : ℕ) → PatchesOnce (tris_in of m p)
  unfolding tris_in
  tris_once p = rising_once _ (filter_rising (λ i. eqb (get_or of i none_of) p) (up_to m) (up_to_rising m))

  pub tris_below : (p : ℕ) → Below m (tris_in of m p)
  unfolding tris_in
  tris_below p = under_below m _ (under_filter m (λ i. eqb (get_or of i none_of) p) (up_to m) (under_up_to m))

  has_all : (g : List ℕ) (t : ℕ) → has t (flat_map (tris_in of m) g) ≡ has (get_or of t none_of) g && ltb t m
  unfolding flat_map any_by
  has_all [] t = refl
  has_all (p ∷ g) t = has_append t (tris_in of m p) (flat_map (tris_in of m) g) ∙ rw (has_tris p t, has_all g t) (share (eqb (get_or of t none_of) p) (has (get_or of t none_of) g) (ltb t m))
    where
      share : (a b c : Bool) → (a && c) || (b && c) ≡ (a || b) && c
      share true true true = refl
      share true true false = refl
      share true false true = refl
      share true false false = refl
      share false b c = refl

  all_below : (g : List ℕ) → Below m (flat_map (tris_in of m) g)
  unfolding flat_map
  all_below [] = below_none m
  all_below (p ∷ g) = below_append m (tris_in of m p) (flat_map (tris_in of m) g) (tris_below p) (all_below g)

  and_first : (a b : Bool) → a && b ≡ true → a ≡ true
  and_first true b e = refl
  and_first false b e = e

  all_once : (g : List ℕ) → PatchesOnce g → PatchesOnce (flat_map (tris_in of m) g)
  unfolding flat_map PatchesOnce
  all_once [] o = tt
  all_once (p ∷ g) o =
      append_once (tris_in of m p) (flat_map (tris_in of m) g) (tris_once p) (all_once g o.1)
      (λ q h.
      let same : get_or of q none_of ≡ p = eqb-true (get_or of q none_of) p (and_first (eqb (get_or of q none_of) p) (ltb q m) (sym (has_tris p q) ∙ h)) in
      has_all g q ∙ rw (same, o.0))

  pub sorted_tris : (g : List ℕ) → PatchesOnce g → sort_by itself (flat_map (tris_in of m) g) ≡ filter_by (λ t. has (get_or of t none_of) g) (up_to m)
  sorted_tris g o =
      sorted_once m (flat_map (tris_in of m) g) (all_below g) (all_once g o)
      ∙ filter_below (λ t. has t (flat_map (tris_in of m) g)) (λ t. has (get_or of t none_of) g) m (λ t h. has_all g t ∙ rw (lt-ltb t m h) (and_true (has (get_or of t none_of) g)))
    where
      and_true : (a : Bool) → a && true ≡ a
      and_true true = refl
      and_true false = refl

-- the triangles of plane g are those of its patches
pub group_tris :
    (of planes : List ℕ) (m : ℕ) (group : List ℕ) (g : ℕ) → PatchesOnce group →
    ((t : ℕ) → t < m → eqb (get_or planes t none_of) g ≡ has (get_or of t none_of) group) →
    sort_by itself (flat_map (tris_in of m) group) ≡ tris_in planes m g
unfolding tris_in
group_tris of planes m group g o e =
    sorted_tris of m group o ∙ sym (filter_below (λ t. eqb (get_or planes t none_of) g) (λ t. has (get_or of t none_of) group) m e)
