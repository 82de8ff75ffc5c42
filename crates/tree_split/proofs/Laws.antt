-- The laws of the definitions of `specs/Split.antt`, by folds one step at a time and by cases on each test:
--     sort_same       a sort by keys in the values' order is the sort by the values
--     areas_step, sweep_more     one more turn of the loops from the back and from the front
--     axis_skip, axis_swept, axes_is     one axis, and the three in turn
--     split_none, split_some, found_below     the split, which is below the list's length
use mathlib.Core.Path.{◌≡◌, refl, sym, ap, ◌∙◌}
use mathlib.Core.Bool.{Bool, true, false, cond}
use mathlib.Core.List.{List, [], ◌∷◌, foldl-append}
use Prim.Native.Nat.{ℕ, zero, suc, ◌+◌, ◌-◌, ◌<◌, ◌≤◌}
use native.Mathlib.Numerals.{add-one}
use native.Mathlib.Omega.{arith}
use lib.Ieee.{Float, nan, le, lt, sub, binary32}
use borrow.Author.Tests.{eq-eqb, ne_eqb}
use lib.ListN.{length, take, drop, get_or, set, drop_of_length-le}
use lib.Seq.{take-suc, drop-cons, take-length, get_or-set_same, get_or-set_other}
use Rattle.order.proofs.Stable.{by-eq}
use Rattle.geometry.specs.declared.Aabb.{Aabb}
use Rattle.geometry.specs.Aabb.{new_empty_of, union_of, surface_area_of, from_point_of, most}
use Rattle.order.specs.Sort.{Below, key_of, insert, sort_by}
use Rattle.order.proofs.Laws.{below_head, below_tail, below_sort}
use Rattle.tree_split.specs.declared.BestSplit.{BestSplit}
use Rattle.vector.specs.declared.Vec3.{Vec3}
use Rattle.vector.specs.Vector.{axis_of}
use Rattle.tree_split.specs.Split.{Swept, swept, search_axis_of, search_axes_of, divided, split_of, least_span, bounds_of, suffix_of, insert_on, sort_on, KeysInOrder, try_of, sweep_of, better_of, cost_of, best_split}

-- ---- folds, one step at a time
module _ (b : ℕ → Aabb) (xs : List ℕ) where
  pub bounds_step : (i : ℕ) → i < length xs → bounds_of b (take (i + 1) xs) ≡ union_of (bounds_of b (take i xs)) (b (get_or xs i 0))
  unfolding bounds_of
  bounds_step i h = rw (add-one, take-suc xs i 0 h, foldl-append)

  pub bounds_all : (i : ℕ) → i ≡ length xs → bounds_of b (take i xs) ≡ bounds_of b xs
  bounds_all i e = rw (e, take-length xs)

  pub bounds_none : bounds_of b (take 0 xs) ≡ new_empty_of
  unfolding bounds_of
  bounds_none = refl

  pub suffix_step : (i : ℕ) → i < length xs → suffix_of b (drop i xs) ≡ union_of (suffix_of b (drop (i + 1) xs)) (b (get_or xs i 0))
  unfolding suffix_of
  suffix_step i h = rw (add-one, drop-cons xs i 0 h)

  pub suffix_none : (i : ℕ) → length xs ≤ i → suffix_of b (drop i xs) ≡ new_empty_of
  unfolding suffix_of
  suffix_none i h = rw (drop_of_length-le xs h)

  pub sweep_step : (a k : ℕ) (c : BestSplit) → sweep_of b a xs (k + 1) c ≡ try_of b a xs (k + 1) (sweep_of b a xs k c)
  unfolding sweep_of
  sweep_step a k c = rw add-one

  pub sweep_none : (a : ℕ) (c : BestSplit) → sweep_of b a xs 0 c ≡ c
  unfolding sweep_of
  sweep_none a c = refl

-- ---- a sort by keys in the values' order is the sort by the values
module _ (n : ℕ) (keys : List ℕ) (f : ℕ → Float) (o : KeysInOrder n keys f) where
  insert_same : (x : ℕ) (ys : List ℕ) → x < n → Below n ys → insert (key_of keys) x ys ≡ insert_on f x ys
  unfolding insert insert_on KeysInOrder
  insert_same x [] hx h = refl
  insert_same x (y ∷ ys) hx h = rw (o x y hx (below_head n y ys h), insert_same x ys hx (below_tail n y ys h))

  pub sort_same : (xs : List ℕ) → Below n xs → sort_by (key_of keys) xs ≡ sort_on f xs
  unfolding sort_by sort_on
  sort_same [] h = refl
  sort_same (x ∷ xs) h =
      insert_same x (sort_by (key_of keys) xs) (below_head n x xs h) (below_sort (key_of keys) n xs (below_tail n x xs h))
      ∙ ap (insert_on f x) (sort_same xs (below_tail n x xs h))

-- ---- the loop from the back
module _ (b : ℕ → Aabb) (xs : List ℕ) (i : ℕ) (pos : 0 < i) (fits : i ≤ length xs) where
  pub back_step : suffix_of b (drop (i - 1) xs) ≡ union_of (suffix_of b (drop i xs)) (b (get_or xs (i - 1) 0))
  back_step = suffix_step b xs (i - 1) (omega arith) ∙ ap (λ (j : ℕ). union_of (suffix_of b (drop j xs)) (b (get_or xs (i - 1) 0))) {x = i - 1 + 1} {y = i} (omega arith)

  pub areas_step :
      (areas : List Float) (v : Float) → length xs ≤ length areas → v ≡ surface_area_of (suffix_of b (drop (i - 1) xs)) →
      ((k : ℕ) → i ≤ k → k < length xs → get_or areas k nan ≡ surface_area_of (suffix_of b (drop k xs))) →
      (k : ℕ) → i - 1 ≤ k → k < length xs → get_or (set areas (i - 1) v) k nan ≡ surface_area_of (suffix_of b (drop k xs))
  areas_step areas v long e old k low high =
      by-eq k (i - 1)
      (λ same. rw same (get_or-set_same areas (i - 1) v nan (omega arith) ∙ e))
      (λ other. get_or-set_other areas (i - 1) k v nan other ∙ old k (omega arith) high)

-- one more division was tried
pub sweep_more :
    (b : ℕ → Aabb) (xs : List ℕ) (a k : ℕ) (c : BestSplit) {s s' : BestSplit} {cost left right : Float} →
    s ≡ sweep_of b a xs k c →
    s' ≡ better_of cost a (k + 1) s →
    cost ≡ cost_of left right (k + 1) (length xs) →
    left ≡ surface_area_of (bounds_of b (take (k + 1) xs)) →
    right ≡ surface_area_of (suffix_of b (drop (k + 1) xs)) →
    s' ≡ sweep_of b a xs (k + 1) c
unfolding try_of
sweep_more b xs a k c {s = s} {s' = s'} so now spent l r = now ∙ (rw (spent, l, r, so) (sym (sweep_step b xs a k c)))

-- ---- one axis
module _ (b : ℕ → Aabb) (mid : ℕ → Vec3) (a : ℕ) (span : Float) (xs : List ℕ) (c : BestSplit) where
  pub axis_skip : lt span (least_span) ≡ true → swept xs c ≡ search_axis_of b mid a span (swept xs c)
  unfolding search_axis_of
  axis_skip e = rw e

  pub axis_swept :
      (ys : List ℕ) (r : BestSplit) → lt span (least_span) ≡ false →
      ys ≡ sort_on (λ i. axis_of (mid i) a) xs → r ≡ sweep_of b a ys (length ys - 1) c →
      swept ys r ≡ search_axis_of b mid a span (swept xs c)
  unfolding search_axis_of
  axis_swept ys r e same most = rw (e, ← same, most)

-- ---- lengths and bounds
module _ (f : ℕ → Float) where
  length_insert_on : (x : ℕ) (ys : List ℕ) → length (insert_on f x ys) ≡ suc (length ys)
  unfolding insert_on
  length_insert_on x [] = refl
  length_insert_on x (y ∷ ys) = go (le (f x) (f y)) (length_insert_on x ys)
    where
      go : (t : Bool) → length (insert_on f x ys) ≡ suc (length ys) → length (cond t (x ∷ y ∷ ys) (y ∷ insert_on f x ys)) ≡ suc (suc (length ys))
      go true r = refl
      go false r = ap suc r

  pub length_sort_on : (xs : List ℕ) → length (sort_on f xs) ≡ length xs
  unfolding sort_on
  length_sort_on [] = refl
  length_sort_on (x ∷ xs) = length_insert_on x (sort_on f xs) ∙ ap suc (length_sort_on xs)

better_below : (n : ℕ) (cost : Float) (a i : ℕ) (c : BestSplit) → i < n → c.at < n → (better_of cost a i c).at < n
unfolding better_of
better_below n cost a i c hi hc = go (lt cost c.cost)
  where
    go : (t : Bool) → (cond t (best_split cost a i) c).at < n
    go true = hi
    go false = hc

try_below : (b : ℕ → Aabb) (a : ℕ) (xs : List ℕ) (n k : ℕ) (c : BestSplit) → k < n → c.at < n → (sweep_of b a xs k c).at < n
unfolding sweep_of try_of
try_below b a xs n zero c hk hc = hc
try_below b a xs n (suc k) c hk hc = better_below n _ a (suc k) (sweep_of b a xs k c) hk (try_below b a xs n k c (omega arith) hc)

-- a search result of the list's length, within it
abbrev Within : ℕ → Swept → Type 0
Within n s = (length s.list ≡ n) × (s.best.at < n)

axis_within : (b : ℕ → Aabb) (mid : ℕ → Vec3) (a : ℕ) (span : Float) (s : Swept) (n : ℕ) → Within n s → Within n (search_axis_of b mid a span s)
unfolding search_axis_of
axis_within b mid a span s n w = go (lt span (least_span))
  where
    f : ℕ → Float
    f i = axis_of (mid i) a

    long : length (sort_on f s.list) ≡ n
    long = length_sort_on f s.list ∙ w.0

    go : (t : Bool) → Within n (cond t s (swept (sort_on f s.list) (sweep_of b a (sort_on f s.list) (length (sort_on f s.list) - 1) s.best)))
    go true = w
    go false = (long, try_below b a (sort_on f s.list) n (length (sort_on f s.list) - 1) s.best (let p = w.1 in let l = long in omega arith) w.1)

pub axes_within : (b : ℕ → Aabb) (mid : ℕ → Vec3) (xs : List ℕ) → 0 < length xs → Within (length xs) (search_axes_of b mid xs)
unfolding search_axes_of
axes_within b mid xs pos = axis_within b mid 2 _ _ _ (axis_within b mid 1 _ _ _ (axis_within b mid 0 _ _ _ (refl, pos)))

-- ---- axis numbers
pub axis_other : (a : ℕ) (v : Vec3) → (a ≡ 0 → ⊥) → (a ≡ 1 → ⊥) → axis_of v a ≡ axis_of v 2
unfolding axis_of
axis_other zero v p q = absurd (p refl)
axis_other (suc zero) v p q = absurd (q refl)
axis_other (suc (suc a)) v p q = refl

pub order_other : (n : ℕ) (keys : List ℕ) (mid : ℕ → Vec3) (a : ℕ) → (a ≡ 0 → ⊥) → (a ≡ 1 → ⊥) → KeysInOrder n keys (λ i. axis_of (mid i) 2) → KeysInOrder n keys (λ i. axis_of (mid i) a)
unfolding KeysInOrder
order_other n keys mid a p q o i j hi hj = rw (axis_other a (mid i) p q, axis_other a (mid j) p q) (o i j hi hj)

-- ---- the division
module _ (b : ℕ → Aabb) (mid : ℕ → Vec3) (xs ys : List ℕ) (c : BestSplit) (done : swept ys c ≡ search_axes_of b mid xs) where
  pub split_none : c.at ≡ 0 → divided ys 0 ≡ split_of b mid xs
  unfolding split_of
  split_none e = rw (← done, eq-eqb c.at 0 e)

  pub split_some : (zs : List ℕ) → (c.at ≡ 0 → ⊥) → zs ≡ sort_on (λ i. axis_of (mid i) c.axis) ys → divided zs c.at ≡ split_of b mid xs
  unfolding split_of
  split_some zs ne e = rw (← done, ne_eqb c.at 0 ne, e)

  pub found_below : 0 < length xs → c.at < length xs
  found_below pos = rw (ap (λ (s : Swept). s.best.at) done) (axes_within b mid xs pos).1

-- ---- the three axes
pub axes_is :
    (b : ℕ → Aabb) (mid : ℕ → Vec3) (xs p1 p2 p3 : List ℕ) (c1 c2 c3 : BestSplit) (m : Aabb) →
    m ≡ bounds_of (λ i. from_point_of (mid i)) xs →
    swept p1 c1 ≡ search_axis_of b mid 0 (sub binary32 m.max.x m.min.x) (swept xs (best_split most 0 0)) →
    swept p2 c2 ≡ search_axis_of b mid 1 (sub binary32 m.max.y m.min.y) (swept p1 c1) →
    swept p3 c3 ≡ search_axis_of b mid 2 (sub binary32 m.max.z m.min.z) (swept p2 c2) →
    swept p3 c3 ≡ search_axes_of b mid xs
unfolding search_axes_of axis_of
axes_is b mid xs p1 p2 p3 c1 c2 c3 m e e1 e2 e3 = e3 ∙ rw (e2, e1, e)
