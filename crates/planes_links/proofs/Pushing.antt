-- Which words a list has, word by word: the loops that append the words of triangles and of corners.
use mathlib.Core.Path.{◌≡◌, refl, sym, ap, ◌∙◌}
use mathlib.Core.Bool.{Bool, true, false, cond, not, ◌||◌, ◌&&◌}
use mathlib.Core.List.{List, [], ◌∷◌, ◌++◌}
use Prim.Native.Nat.{ℕ, suc, ◌+◌, ◌*◌, ◌<◌, ◌≤◌}
use native.Mathlib.Omega.{arith}
use lib.Dec.{eqb, ltb, leb}
use lib.ListN.{length, get_or}
use borrow.Author.Tests.{eq-eqb, ne_eqb, lt-ltb, le-ltb}
use Rattle.laws.proofs.Bools.{or_first, or_second, and_false}
use Rattle.laws.proofs.Lists.{get_or_inside}
use Rattle.float.proofs.Numbers.{by_order}
use Rattle.order.specs.Runs.{any_by, up_to}
use Rattle.order.proofs.Stable.{by-eq}
use Rattle.order.proofs.Runs.{any_under}
use Rattle.planes_patches.specs.Lists.{filter_by}
use Rattle.planes_patches.specs.Rows.{none_of, tris_in}
use Rattle.planes_links.specs.Words.{has, word_of, uppers}
use Rattle.planes_links.specs.Links.{is_of, has_corner, follow, is_linked, run_of, is_joined, Numbers}
use Rattle.planes_links.proofs.Rising.{has_snoc, has_up_to, has_filter}
use Rattle.planes_links.proofs.Filters.{eqb_turn, any_more, any_at, filter_cut, filter_below}

pub word_eq : (a b x y : ℕ) → b < 4096 → y < 4096 → eqb (word_of a b) (word_of x y) ≡ eqb a x && eqb b y
word_eq a b x y h g =
    by-eq a x
    (λ e. rw (eq-eqb a x e) (by-eq b y
    (λ s. eq-eqb (word_of a b) (word_of x y) (rw (e, s)) ∙ sym (eq-eqb b y s))
    (λ d. ne_eqb (word_of a b) (word_of x y) (λ t. d (omega arith)) ∙ sym (ne_eqb b y d))))
    (λ d. rw (ne_eqb a x d) (ne_eqb (word_of a b) (word_of x y) (λ t. d (omega arith))))

-- one word more
pub push_has : (w w2 : List ℕ) (k r x y : ℕ) → uppers w2 r ≡ uppers w k ++ (word_of x y ∷ []) → y < 4096
    → (a b : ℕ) → b < 4096 → has (word_of a b) (uppers w2 r) ≡ has (word_of a b) (uppers w k) || (eqb a x && eqb b y)
push_has w w2 k r x y e g a b h =
    ap (has (word_of a b)) e ∙ has_snoc (word_of a b) (word_of x y) (uppers w k)
    ∙ ap (λ (t : Bool). has (word_of a b) (uppers w k) || t) (word_eq a b x y h g)

-- the first k words are those of the pairs (a, b) that some of the first i tells of
abbrev pub Told : (ℕ → ℕ → ℕ → Bool) → List ℕ → ℕ → ℕ → Type 0
Told f words k i = (a b : ℕ) → b < 4096 → has (word_of a b) (uppers words k) ≡ any_by (f a b) (up_to i)

pub told_none : (f : ℕ → ℕ → ℕ → Bool) (words : List ℕ) → Told f words 0 0
unfolding uppers any_by up_to
told_none f words a b h = refl

module _ (f : ℕ → ℕ → ℕ → Bool) (words : List ℕ) (k i : ℕ) (m : Told f words k i) where
  pub told_skip : ((a b : ℕ) → f a b i ≡ false) → Told f words k (i + 1)
  told_skip none a b h = m a b h ∙ sym (any_more (f a b) i ∙ ap (λ (t : Bool). any_by (f a b) (up_to i) || t) (none a b) ∙ or_none (any_by (f a b) (up_to i)))
    where
      or_none : (c : Bool) → c || false ≡ c
      or_none true = refl
      or_none false = refl

  pub told_more : (w2 : List ℕ) (r : ℕ)
      → ((a b : ℕ) → b < 4096 → has (word_of a b) (uppers w2 r) ≡ has (word_of a b) (uppers words k) || f a b i) → Told f w2 r (i + 1)
  told_more w2 r more a b h = more a b h ∙ ap (λ (t : Bool). t || f a b i) (m a b h) ∙ sym (any_more (f a b) i)

-- ---- triangles of patches

abbrev pub patch_test : List ℕ → ℕ → ℕ → ℕ → ℕ → Bool
patch_test of np p t i = eqb t i && is_of of np p i

is_none : (of : List ℕ) (np p i : ℕ) → np ≤ get_or of i 0 → is_of of np p i ≡ false
unfolding is_of
is_none of np p i h = rw (le-ltb (get_or of i 0) np h)

is_some : (of : List ℕ) (np p i : ℕ) → get_or of i 0 < np → is_of of np p i ≡ eqb p (get_or of i 0)
unfolding is_of
is_some of np p i h = rw (lt-ltb (get_or of i 0) np h) (eqb_turn (get_or of i 0) p)

and_turn : (a b : Bool) → a && b ≡ b && a
and_turn true true = refl
and_turn true false = refl
and_turn false true = refl
and_turn false false = refl

module _ (of : List ℕ) (np : ℕ) (words : List ℕ) (k i : ℕ) (m : Told (patch_test of np) words k i) where
  pub patch_skip : np ≤ get_or of i 0 → Told (patch_test of np) words k (i + 1)
  patch_skip h = told_skip (patch_test of np) words k i m (λ a b. rw (is_none of np a i h) (and_false (eqb b i)))

  pub patch_more : (w2 : List ℕ) (r : ℕ) → get_or of i 0 < np → i < 4096 → uppers w2 r ≡ uppers words k ++ (word_of (get_or of i 0) i ∷ []) → Told (patch_test of np) w2 r (i + 1)
  patch_more w2 r h g e =
      told_more (patch_test of np) words k i m w2 r
      (λ a b l. push_has words w2 k r (get_or of i 0) i e g a b l ∙ ap (λ (t : Bool). has (word_of a b) (uppers words k) || t) (and_turn (eqb a (get_or of i 0)) (eqb b i) ∙ ap (λ (t : Bool). eqb b i && t) (sym (is_some of np a i h))))

-- the row of a patch is its triangles
pub patch_row : (of words : List ℕ) (k m np p : ℕ) → Told (patch_test of np) words k m → m ≤ 4096 → m ≤ length of → p < np
    → filter_by (λ t. has (word_of p t) (uppers words k)) (up_to 4096) ≡ tris_in of m p
unfolding tris_in
patch_row of words k m np p told h l u =
    filter_below (λ t. has (word_of p t) (uppers words k)) (λ t. ltb t m && is_of of np p t) 4096
    (λ t s. told p t s ∙ any_at t (is_of of np p) (up_to m) ∙ ap (λ (b : Bool). b && is_of of np p t) (has_up_to m t))
    ∙ filter_cut (is_of of np p) m 4096 h
    ∙ filter_below (is_of of np p) (λ i. eqb (get_or of i none_of) p) m
    (λ i s. by_order (suc (get_or of i 0)) np
    (λ g. is_some of np p i g ∙ eqb_turn p (get_or of i 0) ∙ ap (λ (v : ℕ). eqb v p) (get_or_inside of i 0 none_of (omega arith)))
    (λ g. is_none of np p i (omega arith) ∙ sym (ne_eqb (get_or of i none_of) p (λ e. let s = get_or_inside of i 0 none_of (omega arith) in omega arith))))

-- ---- corners

module _ (id : List ℕ) (n : ℕ) (of : List ℕ) (np : ℕ) (words : List ℕ) (k i : ℕ) (m : Told (has_corner id n of np) words k i) where
  pub corner_skip : np ≤ get_or of i 0 → Told (has_corner id n of np) words k (i + 1)
  unfolding has_corner
  corner_skip h = told_skip (has_corner id n of np) words k i m (λ a b. rw (is_none of np b i h))

  pub corner_more : (w1 w2 w3 : List ℕ) (r1 r2 r3 : ℕ) → get_or of i 0 < np → np ≤ 4096
      → uppers w1 r1 ≡ uppers words k ++ (word_of (get_or id i 0) (get_or of i 0) ∷ [])
      → uppers w2 r2 ≡ uppers w1 r1 ++ (word_of (get_or id (n + i) 0) (get_or of i 0) ∷ [])
      → uppers w3 r3 ≡ uppers w2 r2 ++ (word_of (get_or id (2 * n + i) 0) (get_or of i 0) ∷ []) → Told (has_corner id n of np) w3 r3 (i + 1)
  unfolding has_corner
  corner_more w1 w2 w3 r1 r2 r3 h g e1 e2 e3 =
      let p = get_or of i 0 in
      let small : p < 4096 = omega arith in
      told_more (has_corner id n of np) words k i m w3 r3
      (λ a b l.
      push_has w2 w3 r2 r3 (get_or id (2 * n + i) 0) p e3 small a b l
      ∙ ap (λ (t : Bool). t || (eqb a (get_or id (2 * n + i) 0) && eqb b p)) (push_has w1 w2 r1 r2 (get_or id (n + i) 0) p e2 small a b l
      ∙ ap (λ (t : Bool). t || (eqb a (get_or id (n + i) 0) && eqb b p)) (push_has words w1 k r1 (get_or id i 0) p e1 small a b l))
      ∙ rw (is_some of np b i h, eqb_turn (get_or id i 0) a, eqb_turn (get_or id (n + i) 0) a, eqb_turn (get_or id (2 * n + i) 0) a)
      (mix (has (word_of a b) (uppers words k)) (eqb b p) (eqb a (get_or id i 0)) (eqb a (get_or id (n + i) 0)) (eqb a (get_or id (2 * n + i) 0))))
    where
      mix : (t e x y z : Bool) → ((t || (x && e)) || (y && e)) || (z && e) ≡ t || (e && (x || (y || z)))
      mix true e x y z = refl
      mix false true true y z = refl
      mix false true false true z = refl
      mix false true false false true = refl
      mix false true false false false = refl
      mix false false true true true = refl
      mix false false true true false = refl
      mix false false true false true = refl
      mix false false true false false = refl
      mix false false false true true = refl
      mix false false false true false = refl
      mix false false false false true = refl
      mix false false false false false = refl

-- ---- from rows to runs, and from links to adjacency

module _ (id : List ℕ) (n : ℕ) (of : List ℕ) (m np : ℕ) where
  pub run_is : (words : List ℕ) (k v : ℕ) → Told (has_corner id n of np) words k m → filter_by (λ q. has (word_of v q) (uppers words k)) (up_to 4096) ≡ run_of id n of m np v
  unfolding run_of
  run_is words k v told = filter_below (λ q. has (word_of v q) (uppers words k)) (λ q. any_by (has_corner id n of np v q) (up_to m)) 4096 (λ q s. told v q s)

  pub joined_is : (vertices : ℕ) (run : ℕ → List ℕ) (words : List ℕ) (k p : ℕ) → Told (λ a b v. is_linked (run v) a b) words k vertices
      → ((v : ℕ) → v < vertices → run v ≡ run_of id n of m np v) → filter_by (λ q. has (word_of p q) (uppers words k)) (up_to 4096) ≡ filter_by (is_joined id n vertices of m np p) (up_to 4096)
  unfolding is_joined
  joined_is vertices run words k p told e =
      filter_below (λ q. has (word_of p q) (uppers words k)) (is_joined id n vertices of m np p) 4096
      (λ q s. told p q s ∙ any_under (λ v. is_linked (run v) p q) (λ v. is_linked (run_of id n of m np v) p q) vertices (λ v l. ap (λ (r : List ℕ). is_linked r p q) (e v l)))

-- ---- patches from np on are in no run

any_false : (f : ℕ → Bool) (xs : List ℕ) → ((x : ℕ) → f x ≡ false) → any_by f xs ≡ false
unfolding any_by
any_false f [] e = refl
any_false f (x ∷ xs) e = rw (e x) (any_false f xs e)

is_past : (of : List ℕ) (np q i : ℕ) → np ≤ q → is_of of np q i ≡ false
is_past of np q i h = by_order (suc (get_or of i 0)) np (λ g. is_some of np q i g ∙ ne_eqb q (get_or of i 0) (λ e. omega arith)) (λ g. is_none of np q i (omega arith))

follow_right : (run : List ℕ) (p q : ℕ) → has q run ≡ false → follow run p q ≡ false
unfolding follow any_by
follow_right [] p q e = refl
follow_right (x ∷ []) p q e = refl
follow_right (x ∷ y ∷ r) p q e =
    let t = or_second (eqb q x) (eqb q y || has q r) e in
    rw (follow_right (y ∷ r) p q t, eqb_turn y q, or_first (eqb q y) (has q r) t) (none (eqb x p))
  where
    none : (a : Bool) → (a && false) || false ≡ false
    none true = refl
    none false = refl

follow_left : (run : List ℕ) (p q : ℕ) → has q run ≡ false → follow run q p ≡ false
unfolding follow any_by
follow_left [] p q e = refl
follow_left (x ∷ []) p q e = refl
follow_left (x ∷ y ∷ r) p q e =
    let t = or_second (eqb q x) (eqb q y || has q r) e in
    rw (follow_left (y ∷ r) p q t, eqb_turn x q, or_first (eqb q x) (eqb q y || has q r) e)

pub linked_none : (run : List ℕ) (p q : ℕ) → has q run ≡ false → is_linked run p q ≡ false
unfolding is_linked
linked_none run p q e = go (leb (length run) 8)
  where
    none : (a b : Bool) → a && b && false ≡ false
    none true true = refl
    none true false = refl
    none false true = refl
    none false false = refl

    go : (c : Bool) → cond c (not (eqb p q) && has p run && has q run) (follow run p q || follow run q p) ≡ false
    go true = rw e (none (not (eqb p q)) (has p run))
    go false = rw (follow_right run p q e, follow_left run p q e)

-- a patch below np is asked for as it is
pub is_of_lem : (of : List ℕ) (np q i : ℕ) → q < np → is_of of np q i ≡ eqb (get_or of i 0) q
is_of_lem of np q i h =
    by_order (suc (get_or of i 0)) np (λ g. is_some of np q i g ∙ eqb_turn q (get_or of i 0)) (λ g. is_none of np q i (omega arith) ∙ sym (ne_eqb (get_or of i 0) q (λ e. omega arith)))

module _ (id : List ℕ) (n : ℕ) (of : List ℕ) (m np : ℕ) where
  corner_past : (v q : ℕ) → np ≤ q → any_by (has_corner id n of np v q) (up_to m) ≡ false
  unfolding has_corner
  corner_past v q h = any_false (has_corner id n of np v q) (up_to m) (λ i. rw (is_past of np q i h))

  pub run_cut : (v : ℕ) → np ≤ 4096 → run_of id n of m np v ≡ filter_by (λ q. any_by (has_corner id n of np v q) (up_to m)) (up_to np)
  unfolding run_of
  run_cut v h =
      filter_below (λ q. any_by (has_corner id n of np v q) (up_to m)) (λ q. ltb q np && any_by (has_corner id n of np v q) (up_to m)) 4096
      (λ q l. by_order (suc q) np (λ g. rw (lt-ltb q np g)) (λ g. rw (le-ltb q np (omega arith)) (corner_past v q (omega arith))))
      ∙ filter_cut (λ q. any_by (has_corner id n of np v q) (up_to m)) np 4096 h

  run_past : (v q : ℕ) → np ≤ q → has q (run_of id n of m np v) ≡ false
  unfolding run_of
  run_past v q h = has_filter (λ x. any_by (has_corner id n of np v x) (up_to m)) q (up_to 4096) ∙ rw (corner_past v q h)

  pub joined_cut : (vertices p : ℕ) → np ≤ 4096 → filter_by (is_joined id n vertices of m np p) (up_to 4096) ≡ filter_by (is_joined id n vertices of m np p) (up_to np)
  unfolding is_joined
  joined_cut vertices p h =
      filter_below (is_joined id n vertices of m np p) (λ q. ltb q np && is_joined id n vertices of m np p q) 4096
      (λ q l. by_order (suc q) np (λ g. rw (lt-ltb q np g))
      (λ g. rw (le-ltb q np (omega arith)) (any_false (λ v. is_linked (run_of id n of m np v) p q) (up_to vertices) (λ v. linked_none (run_of id n of m np v) p q (run_past v q (omega arith))))))
      ∙ filter_cut (is_joined id n vertices of m np p) np 4096 h

pub numbers_under : (id : List ℕ) (n m a b : ℕ) → Numbers id n m a → a ≤ b → Numbers id n m b
numbers_under id n m a b t h =
    record { first = λ i l. let x = t.first i l in omega arith; second = λ i l. let x = t.second i l in omega arith; third = λ i l. let x = t.third i l in omega arith }
