-- The tree's leaves are a permutation of its triangles (`leaves_perm`): each sort gives a permutation of its list, and a split's halves are
-- the list.
--     sort_on_perm, split_perm     the sort, and the list as the split leaves it
--     perm_below                   a permutation of triangles below n has triangles below n
use mathlib.Core.Path.{◌≡◌, refl, ap, subst}
use mathlib.Core.Bool.{Bool, true, false, cond}
use mathlib.Core.List.{List, [], ◌∷◌, ◌++◌}
use Prim.Native.Nat.{ℕ, zero, suc, ◌-◌}
use lib.Ieee.{Float, le, lt}
use lib.Dec.{eqb, leb}
use lib.ListN.{length, take, drop}
use Rattle.order.specs.Sort.{Below, Perm, none, skip, swap, then}
use Rattle.order.proofs.Laws.{below_cons, below_head, below_tail}
use Rattle.order.proofs.Stable.{perm_same}
use Rattle.vector.specs.declared.Vec3.{Vec3}
use Rattle.vector.specs.Vector.{axis_of}
use Rattle.geometry.specs.declared.Aabb.{Aabb}
use Rattle.tree_split.specs.Split.{Swept, swept, Divided, divided, insert_on, sort_on, sweep_of, search_axis_of, search_axes_of, least_span, split_of}
use Rattle.tree_build.specs.Tree.{Tree, leaves_of, leaf_of, inner_of, leaf_threshold, build_sah_of, count_to, build_of}

-- ---- permutations

pub perm_append : (xs ys zs ws : List ℕ) → Perm xs zs → Perm ys ws → Perm (xs ++ ys) (zs ++ ws)
perm_append xs ys zs ws p q = then (left p) (right zs q)
  where
    left : {ps qs : List ℕ} → Perm ps qs → Perm (ps ++ ys) (qs ++ ys)
    left none = perm_same ys
    left (skip r) = skip (left r)
    left swap = swap
    left (then r s) = then (left r) (left s)

    right : (ps : List ℕ) → Perm ys ws → Perm (ps ++ ys) (ps ++ ws)
    right [] r = r
    right (a ∷ ps) r = skip (right ps r)

pub perm_below : {xs ys : List ℕ} (n : ℕ) → Perm xs ys → Below n ys → Below n xs
perm_below n none h = h
perm_below n (skip {x = x} {xs = xs} {ys = ys} p) h = below_cons n x xs (below_head n x ys h) (perm_below n p (below_tail n x ys h))
perm_below n (swap {x = x} {y = y} {xs = xs}) h =
    below_cons n x (y ∷ xs) (below_head n x xs (below_tail n y (x ∷ xs) h))
    (below_cons n y xs (below_head n y (x ∷ xs) h) (below_tail n x xs (below_tail n y (x ∷ xs) h)))
perm_below n (then p q) h = perm_below n p (perm_below n q h)

take_drop : (k : ℕ) (xs : List ℕ) → take k xs ++ drop k xs ≡ xs
take_drop zero xs = refl
take_drop (suc k) [] = refl
take_drop (suc k) (x ∷ xs) = ap (λ (l : List ℕ). x ∷ l) (take_drop k xs)

-- ---- the sort
module _ (f : ℕ → Float) where
  insert_on_perm : (x : ℕ) (ys : List ℕ) → Perm (insert_on f x ys) (x ∷ ys)
  unfolding insert_on
  insert_on_perm x [] = perm_same (x ∷ [])
  insert_on_perm x (y ∷ ys) = go (le (f x) (f y)) (insert_on_perm x ys)
    where
      go : (t : Bool) → Perm (insert_on f x ys) (x ∷ ys) → Perm (cond t (x ∷ y ∷ ys) (y ∷ insert_on f x ys)) (x ∷ y ∷ ys)
      go true r = perm_same (x ∷ y ∷ ys)
      go false r = then (skip r) swap

  pub sort_on_perm : (xs : List ℕ) → Perm (sort_on f xs) xs
  unfolding sort_on
  sort_on_perm [] = none
  sort_on_perm (x ∷ xs) = then (insert_on_perm x (sort_on f xs)) (skip (sort_on_perm xs))

-- ---- the split
module _ (b : ℕ → Aabb) (mid : ℕ → Vec3) where
  pub axis_perm : (a : ℕ) (span : Float) (s : Swept) → Perm (search_axis_of b mid a span s).list s.list
  unfolding search_axis_of
  axis_perm a span s = go (lt span least_span)
    where
      xs : List ℕ
      xs = sort_on (λ i. axis_of (mid i) a) s.list

      go : (t : Bool) → Perm (cond t s (swept xs (sweep_of b a xs (length xs - 1) s.best))).list s.list
      go true = perm_same s.list
      go false = sort_on_perm (λ i. axis_of (mid i) a) s.list

  pub axes_perm : (xs : List ℕ) → Perm (search_axes_of b mid xs).list xs
  unfolding search_axes_of
  axes_perm xs = then (axis_perm 2 _ _) (then (axis_perm 1 _ _) (axis_perm 0 _ _))

  pub split_perm : (xs : List ℕ) → Perm (split_of b mid xs).list xs
  unfolding split_of
  split_perm xs = go (eqb s.best.at 0)
    where
      s : Swept
      s = search_axes_of b mid xs

      go : (t : Bool) → Perm (cond t (divided s.list 0) (divided (sort_on (λ i. axis_of (mid i) s.best.axis) s.list) s.best.at)).list xs
      go true = axes_perm xs
      go false = then (sort_on_perm (λ i. axis_of (mid i) s.best.axis) s.list) (axes_perm xs)

  -- ---- THE LEAVES
  pub leaves_perm : (d : ℕ) (xs : List ℕ) → Perm (leaves_of (build_sah_of b mid d xs)) xs
  unfolding build_sah_of leaves_of
  leaves_perm zero xs = perm_same xs
  leaves_perm (suc d) xs = few (leb (length xs) leaf_threshold) (leaves_perm d l) (leaves_perm d r)
    where
      c : Divided
      c = split_of b mid xs

      l : List ℕ
      l = take c.at c.list

      r : List ℕ
      r = drop c.at c.list

      whole : Tree
      whole = cond (eqb c.at 0) (leaf_of b c.list) (inner_of (build_sah_of b mid d l) (build_sah_of b mid d r))

      halves : (t : Bool) → Perm (leaves_of (build_sah_of b mid d l)) l → Perm (leaves_of (build_sah_of b mid d r)) r → Perm (leaves_of (cond t (leaf_of b c.list) (inner_of (build_sah_of b mid d l) (build_sah_of b mid d r)))) c.list
      halves true p q = perm_same c.list
      halves false p q =
          subst (λ (ys : List ℕ). Perm (leaves_of (build_sah_of b mid d l) ++ leaves_of (build_sah_of b mid d r)) ys) (take_drop c.at c.list)
          (perm_append (leaves_of (build_sah_of b mid d l)) (leaves_of (build_sah_of b mid d r)) l r p q)

      few : (t : Bool) → Perm (leaves_of (build_sah_of b mid d l)) l → Perm (leaves_of (build_sah_of b mid d r)) r → Perm (leaves_of (cond t (leaf_of b xs) whole)) xs
      few true p q = perm_same xs
      few false p q = then (halves (eqb c.at 0) p q) (split_perm xs)

  -- of n triangles, each stands in one leaf once
  pub build_perm : (n : ℕ) → Perm (leaves_of (build_of b mid n)) (count_to 0 n)
  build_perm n = leaves_perm 32 (count_to 0 n)
