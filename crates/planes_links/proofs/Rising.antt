-- Lists that rise, each number once: the sorted and compacted list of some numbers is the definition's filter.
--     rising_unique    two rising lists with the same members are equal
--     sorted_set       the sort of L with repeats left out is: of 0 .. n - 1, those that are in L
--     row_of           the words p * b + q of a sorted and compacted list, for one p: of 0 .. b - 1, those q with p * b + q in L
use mathlib.Core.Path.{◌≡◌, refl, sym, ap, ◌∙◌}
use mathlib.Core.Bool.{Bool, true, false, ◌||◌, ◌&&◌}
use mathlib.Core.List.{List, [], ◌∷◌, ◌++◌}
use Prim.Native.Nat.{ℕ, zero, suc, ◌+◌, ◌*◌, ◌/◌, ◌%◌, ◌<◌, ◌≤◌}
use native.Mathlib.Nat.{add-zero, mod-lt, div-add-mod', mul-add-div_right, div-eq_of_lt}
use native.Mathlib.Omega.{arith}
use lib.Dec.{eqb, ltb}
use borrow.Author.Tests.{eq-eqb, ne_eqb, lt-ltb, le-ltb}
use Rattle.order.specs.Sort.{Sorted, sort_by, Below, Perm, none, skip, swap, then}
use Rattle.float.proofs.Numbers.{by_order}
use Rattle.order.proofs.Laws.{below_head, below_tail}
use Rattle.order.proofs.Stable.{by-eq, Least, Chain, least_less, chain_sort, chain_sorted, sort_perm}
use Rattle.order.specs.Runs.{any_by, up_to}
use Rattle.order.proofs.Positions.{Under, under_up_to}
use Rattle.planes_patches.specs.Lists.{keep_if, filter_by}
use Rattle.planes_links.specs.Words.{has, itself, dedup_after, dedup}

-- all of ys are v or more
abbrev pub From : ℕ → List ℕ → Type 0
From v ys = Least itself v ys

unfoldable pub Rising : List ℕ → Type 0
Rising [] = Unit {0}
Rising (x ∷ xs) = From (suc x) xs × Rising xs

-- ---- membership

pub has_head : (x : ℕ) (xs : List ℕ) → has x (x ∷ xs) ≡ true
unfolding any_by
has_head x xs = rw (eq-eqb x x refl)

pub has_other : (q x : ℕ) (xs : List ℕ) → (q ≡ x → ⊥) → has q (x ∷ xs) ≡ has q xs
unfolding any_by
has_other q x xs d = rw (ne_eqb q x d)

pub not_from : (q v : ℕ) (xs : List ℕ) → q < v → From v xs → has q xs ≡ false
unfolding Least any_by
not_from q v [] h f = refl
not_from q v (x ∷ xs) h f = let b = f.0 in has_other q x xs (λ e. omega arith) ∙ not_from q v xs h f.1

pub clash : {b : Bool} → b ≡ true → b ≡ false → ⊥
clash {b} p q = let z : ◌≡◌ {A = Bool} true false = sym p ∙ q in let n : ◌≡◌ {A = ℕ} 0 1 = cc in omega arith

none_in : (q : ℕ) → has q [] ≡ false
unfolding any_by
none_in q = refl

pub rising_unique : (ys zs : List ℕ) → Rising ys → Rising zs → ((q : ℕ) → has q ys ≡ has q zs) → ys ≡ zs
unfolding Rising
rising_unique [] [] r s e = refl
rising_unique [] (z ∷ zs) r s e = absurd (clash (has_head z zs) (sym (e z) ∙ none_in z))
rising_unique (y ∷ ys) [] r s e = absurd (clash (has_head y ys) (e y ∙ none_in y))
rising_unique (y ∷ ys) (z ∷ zs) r s e =
    let tails : y ≡ z → ys ≡ zs = λ same. rising_unique ys zs r.1 s.1 (λ q.
    by-eq q y (λ h. not_from q (suc y) ys (omega arith) r.0 ∙ sym (not_from q (suc z) zs (omega arith) s.0))
    (λ d. sym (has_other q y ys d) ∙ e q ∙ has_other q z zs (λ h. d (h ∙ sym same)))) in
    by-eq y z (λ same. let t = tails same in cc)
    (λ differ. by_order y z
    (λ le. absurd (clash (has_head y ys) (e y ∙ has_other y z zs differ ∙ not_from y (suc z) zs (omega arith) s.0)))
    (λ gt. absurd (clash (has_head z zs) (sym (e z) ∙ has_other z y ys (λ h. differ (sym h)) ∙ not_from z (suc y) ys (omega arith) r.0))))

rising_chain : (xs : List ℕ) → Rising xs → Chain itself xs
unfolding Rising Chain
rising_chain [] r = tt
rising_chain (x ∷ xs) r = (least_less itself x (suc x) xs (omega arith) r.0, rising_chain xs r.1)

pub rising_sorted : (xs : List ℕ) → Rising xs → Sorted itself xs
rising_sorted xs r = chain_sorted itself xs (rising_chain xs r)

-- ---- filters

filter_from : (p : ℕ → Bool) (v : ℕ) (xs : List ℕ) → From v xs → From v (filter_by p xs)
unfolding filter_by Least
filter_from p v [] f = tt
filter_from p v (x ∷ xs) f = go (p x) (filter_from p v xs f.1)
  where
    go : (b : Bool) → From v (filter_by p xs) → From v (keep_if b x (filter_by p xs))
    go true r = (f.0, r)
    go false r = r

pub filter_rising : (p : ℕ → Bool) (xs : List ℕ) → Rising xs → Rising (filter_by p xs)
unfolding filter_by Rising
filter_rising p [] r = tt
filter_rising p (x ∷ xs) r = go (p x) (filter_rising p xs r.1)
  where
    go : (b : Bool) → Rising (filter_by p xs) → Rising (keep_if b x (filter_by p xs))
    go true t = (filter_from p (suc x) xs r.0, t)
    go false t = t

pub has_filter : (p : ℕ → Bool) (q : ℕ) (xs : List ℕ) → has q (filter_by p xs) ≡ p q && has q xs
unfolding filter_by any_by
has_filter p q [] = and_false (p q)
  where
    and_false : (b : Bool) → false ≡ b && false
    and_false true = refl
    and_false false = refl
has_filter p q (x ∷ xs) = go (p x) refl (has_filter p q xs)
  where
    both : (a b c : Bool) → a ≡ true → b || c ≡ a && (b || c)
    both true b c e = refl
    both false b c e = absurd (clash e refl)

    never : (a c : Bool) → a ≡ false → a && c ≡ false
    never true c e = absurd (clash refl e)
    never false c e = refl

    go : (b : Bool) → p x ≡ b → has q (filter_by p xs) ≡ p q && has q xs → has q (keep_if b x (filter_by p xs)) ≡ p q && (eqb q x || has q xs)
    go true e r = by-eq q x (λ s. rw (eq-eqb q x s) (sym (and_one (ap p s ∙ e)))) (λ d. rw (ne_eqb q x d) r)
      where
        and_one : p q ≡ true → p q && true ≡ true
        and_one h = rw h
    go false e r = r ∙ by-eq q x (λ s. never (p q) (has q xs) (ap p s ∙ e) ∙ sym (never (p q) (eqb q x || has q xs) (ap p s ∙ e))) (λ d. rw (ne_eqb q x d))

-- ---- 0 .. n - 1

snoc_from : (v n : ℕ) (xs : List ℕ) → From v xs → v ≤ n → From v (xs ++ (n ∷ []))
unfolding Least
snoc_from v n [] f h = (h, tt)
snoc_from v n (x ∷ xs) f h = (f.0, snoc_from v n xs f.1 h)

snoc_rising : (n : ℕ) (xs : List ℕ) → Rising xs → Under n xs → Rising (xs ++ (n ∷ []))
unfolding Rising Under Least
snoc_rising n [] r u = (tt, tt)
snoc_rising n (x ∷ xs) r u = (snoc_from (suc x) n xs r.0 u.0, snoc_rising n xs r.1 u.1)

pub up_to_rising : (n : ℕ) → Rising (up_to n)
unfolding Rising up_to
up_to_rising zero = tt
up_to_rising (suc n) = snoc_rising n (up_to n) (up_to_rising n) (under_up_to n)

pub has_snoc : (q n : ℕ) (xs : List ℕ) → has q (xs ++ (n ∷ [])) ≡ has q xs || eqb q n
unfolding any_by
has_snoc q n [] = or_false (eqb q n)
  where
    or_false : (b : Bool) → b || false ≡ b
    or_false true = refl
    or_false false = refl
has_snoc q n (x ∷ xs) = rw (has_snoc q n xs) (or_assoc (eqb q x) (has q xs) (eqb q n))
  where
    or_assoc : (a b c : Bool) → a || (b || c) ≡ a || b || c
    or_assoc true b c = refl
    or_assoc false b c = refl

pub has_up_to : (n q : ℕ) → has q (up_to n) ≡ ltb q n
unfolding up_to any_by
has_up_to zero q = sym (le-ltb q 0 (omega arith))
has_up_to (suc n) q =
    has_snoc q n (up_to n) ∙ rw (has_up_to n q)
    (by-eq q n (λ s. rw (eq-eqb q n s) (or_true (ltb q n) ∙ sym (lt-ltb q (suc n) (omega arith))))
    (λ d. rw (ne_eqb q n d) (or_none (ltb q n) ∙ by_order (suc q) n (λ h. lt-ltb q n h ∙ sym (lt-ltb q (suc n) (omega arith))) (λ h. le-ltb q n (omega arith) ∙ sym (le-ltb q (suc n) (omega arith))))))
  where
    or_true : (b : Bool) → b || true ≡ true
    or_true true = refl
    or_true false = refl

    or_none : (b : Bool) → b || false ≡ b
    or_none true = refl
    or_none false = refl

-- ---- repeats left out

pub after_same : (last x : ℕ) (xs : List ℕ) → x ≡ last → dedup_after last (x ∷ xs) ≡ dedup_after x xs
unfolding dedup_after
after_same last x xs e = rw (eq-eqb x last e)

pub after_new : (last x : ℕ) (xs : List ℕ) → (x ≡ last → ⊥) → dedup_after last (x ∷ xs) ≡ x ∷ dedup_after x xs
unfolding dedup_after
after_new last x xs d = rw (ne_eqb x last d)

-- sorted, after last
after_from : (last : ℕ) (xs : List ℕ) → From last xs → Chain itself xs → From (suc last) (dedup_after last xs)
unfolding Least Chain dedup_after
after_from last [] f c = tt
after_from last (x ∷ xs) f c =
    let r = after_from x xs c.0 c.1 in
    let b = f.0 in
    by-eq x last (λ e. rw (eq-eqb x last e) (least_less itself (suc last) (suc x) (dedup_after x xs) (omega arith) r))
    (λ d. rw (ne_eqb x last d) (let h : suc last ≤ x = omega_lt last x b d in (h, least_less itself (suc last) (suc x) (dedup_after x xs) (omega arith) r)))
  where
    omega_lt : (l x : ℕ) → l ≤ x → (x ≡ l → ⊥) → suc l ≤ x
    omega_lt l x h d = by_order (suc l) x (λ g. g) (λ g. absurd (d (omega arith)))

after_rising : (last : ℕ) (xs : List ℕ) → From last xs → Chain itself xs → Rising (dedup_after last xs)
unfolding Least Chain dedup_after Rising
after_rising last [] f c = tt
after_rising last (x ∷ xs) f c =
    let r = after_rising x xs c.0 c.1 in
    let g = after_from x xs c.0 c.1 in
    by-eq x last (λ e. rw (eq-eqb x last e) r) (λ d. rw (ne_eqb x last d) (g, r))

pub dedup_rising : (xs : List ℕ) → Chain itself xs → Rising (dedup xs)
unfolding Chain dedup Rising
dedup_rising [] c = tt
dedup_rising (x ∷ xs) c = (after_from x xs c.0 c.1, after_rising x xs c.0 c.1)

after_has : (q last : ℕ) (xs : List ℕ) → eqb q last || has q (dedup_after last xs) ≡ eqb q last || has q xs
unfolding dedup_after any_by
after_has q last [] = refl
after_has q last (x ∷ xs) =
    let r = after_has q x xs in
    by-eq x last (λ e. rw (eq-eqb x last e)
    (ap (λ (y : ℕ). eqb q y || has q (dedup_after x xs)) (sym e) ∙ r ∙ sym (twice (eqb q x) (has q xs)) ∙ ap (λ (y : ℕ). eqb q y || (eqb q x || has q xs)) e))
    (λ d. rw (ne_eqb x last d) (ap (λ (b : Bool). eqb q last || b) r))
  where
    twice : (a b : Bool) → a || (a || b) ≡ a || b
    twice true b = refl
    twice false b = refl

pub dedup_has : (q : ℕ) (xs : List ℕ) → has q (dedup xs) ≡ has q xs
unfolding dedup any_by
dedup_has q [] = refl
dedup_has q (x ∷ xs) = after_has q x xs

-- ---- the sort has the same members

pub perm_has : (q : ℕ) {xs ys : List ℕ} → Perm xs ys → has q xs ≡ has q ys
unfolding any_by
perm_has q none = refl
perm_has q (skip {x = x} p) = ap (λ (b : Bool). eqb q x || b) (perm_has q p)
perm_has q (swap {x = x} {y = y} {xs = xs}) = or_swap (eqb q x) (eqb q y) (has q xs)
  where
    or_swap : (a b c : Bool) → a || (b || c) ≡ b || (a || c)
    or_swap true true c = refl
    or_swap true false c = refl
    or_swap false true c = refl
    or_swap false false c = refl
perm_has q (then p r) = perm_has q p ∙ perm_has q r

pub sort_has : (q : ℕ) (xs : List ℕ) → has q (sort_by itself xs) ≡ has q xs
sort_has q xs = perm_has q (sort_perm itself xs)

-- what is in a list that is below n is below n
has_below : (q n : ℕ) (xs : List ℕ) → Below n xs → n ≤ q → has q xs ≡ false
unfolding any_by
has_below q n [] b h = refl
has_below q n (x ∷ xs) b h = let g = below_head n x xs b in has_other q x xs (λ e. omega arith) ∙ has_below q n xs (below_tail n x xs b) h

-- SORTED AND COMPACTED is the definition's filter
pub sorted_set : (n : ℕ) (xs : List ℕ) → Below n xs → dedup (sort_by itself xs) ≡ filter_by (λ q. has q xs) (up_to n)
sorted_set n xs b =
    rising_unique (dedup (sort_by itself xs)) (filter_by (λ q. has q xs) (up_to n))
    (dedup_rising (sort_by itself xs) (chain_sort itself xs)) (filter_rising (λ q. has q xs) (up_to n) (up_to_rising n))
    (λ q. dedup_has q (sort_by itself xs) ∙ sort_has q xs ∙ sym (has_filter (λ p. has p xs) q (up_to n) ∙ ap (λ (t : Bool). has q xs && t) (has_up_to n q) ∙ side q))
  where
    side : (q : ℕ) → has q xs && ltb q n ≡ has q xs
    side q = by_order (suc q) n (λ h. rw (lt-ltb q n h) (and_true (has q xs))) (λ h. rw (has_below q n xs b (omega arith)))
      where
        and_true : (a : Bool) → a && true ≡ a
        and_true true = refl
        and_true false = refl

-- ---- the words p * b + q of a list, for one p

-- of the words with p above, what they have below
unfoldable pub row : ℕ → ℕ → List ℕ → List ℕ
row b p [] = []
row b p (w ∷ ws) = keep_if (eqb (w / b) p) (w % b) (row b p ws)

module _ (b : ℕ) (pos : 0 < b) (p : ℕ) where
  pub row_in_lem : (w : ℕ) (ws : List ℕ) → w / b ≡ p → row b p (w ∷ ws) ≡ w % b ∷ row b p ws
  unfolding row
  row_in_lem w ws e = rw (eq-eqb (w / b) p e)

  pub row_out : (w : ℕ) (ws : List ℕ) → (w / b ≡ p → ⊥) → row b p (w ∷ ws) ≡ row b p ws
  unfolding row
  row_out w ws d = rw (ne_eqb (w / b) p d)

  word : (w : ℕ) → w / b ≡ p → p * b + w % b ≡ w
  word w e = ap (λ (u : ℕ). u * b + w % b) (sym e) ∙ div-add-mod' w b

  word_of : (q w : ℕ) → q < b → p * b + q ≡ w → w / b ≡ p
  word_of q w h e = ap (λ (u : ℕ). u / b) (sym e) ∙ mul-add-div_right pos p q ∙ ap (λ (u : ℕ). p + u) (div-eq_of_lt h) ∙ add-zero p

  row_has : (q : ℕ) (ws : List ℕ) → q < b → has q (row b p ws) ≡ has (p * b + q) ws
  unfolding any_by row
  row_has q [] h = refl
  row_has q (w ∷ ws) h =
      let r = row_has q ws h in
      by-eq (w / b) p
      (λ e.
      let is = word w e in
      rw (eq-eqb (w / b) p e)
      (by-eq q (w % b)
      (λ s. let whole : p * b + q ≡ w = ap (λ (u : ℕ). p * b + u) s ∙ is in rw (eq-eqb q (w % b) s, eq-eqb (p * b + q) w whole))
      (λ d. rw (ne_eqb q (w % b) d, ne_eqb (p * b + q) w (λ t. d (omega arith))) r)))
      (λ d. rw (ne_eqb (w / b) p d, ne_eqb (p * b + q) w (λ t. d (word_of q w h t))) r)

  row_below : (ws : List ℕ) → Under b (row b p ws)
  unfolding row Under
  row_below [] = tt
  row_below (w ∷ ws) = by-eq (w / b) p (λ e. rw (eq-eqb (w / b) p e) (mod-lt w pos, row_below ws)) (λ d. rw (ne_eqb (w / b) p d) (row_below ws))

  row_from : (v : ℕ) (ws : List ℕ) → From (p * b + v) ws → From v (row b p ws)
  unfolding row Least
  row_from v [] f = tt
  row_from v (w ∷ ws) f =
      let r = row_from v ws f.1 in
      let h = f.0 in
      by-eq (w / b) p (λ e. let is = word w e in rw (eq-eqb (w / b) p e) (omega arith, r)) (λ d. rw (ne_eqb (w / b) p d) r)

  row_rising : (ws : List ℕ) → Rising ws → Rising (row b p ws)
  unfolding row Rising
  row_rising [] r = tt
  row_rising (w ∷ ws) r =
      let t = row_rising ws r.1 in
      by-eq (w / b) p
      (λ e.
      let is = word w e in
      rw (eq-eqb (w / b) p e) (row_from (suc (w % b)) ws (least_less itself (p * b + suc (w % b)) (suc w) ws (omega arith) r.0), t))
      (λ d. rw (ne_eqb (w / b) p d) t)

pub under_has : (n q : ℕ) (xs : List ℕ) → Under n xs → n ≤ q → has q xs ≡ false
unfolding Under any_by
under_has n q [] u h = refl
under_has n q (x ∷ xs) u h = let g = u.0 in has_other q x xs (λ e. omega arith) ∙ under_has n q xs u.1 h

-- ROW p of the sorted and compacted words: the q below b with p * b + q among the words
pub row_of : (b p : ℕ) (ws : List ℕ) → 0 < b → row b p (dedup (sort_by itself ws)) ≡ filter_by (λ q. has (p * b + q) ws) (up_to b)
row_of b p ws h =
    rising_unique (row b p (dedup (sort_by itself ws))) (filter_by (λ q. has (p * b + q) ws) (up_to b))
    (row_rising b h p (dedup (sort_by itself ws)) (dedup_rising (sort_by itself ws) (chain_sort itself ws)))
    (filter_rising (λ q. has (p * b + q) ws) (up_to b) (up_to_rising b))
    (λ q. same q ∙ sym (has_filter (λ u. has (p * b + u) ws) q (up_to b) ∙ ap (λ (t : Bool). has (p * b + q) ws && t) (has_up_to b q)))
  where
    and_true : (a : Bool) → a ≡ a && true
    and_true true = refl
    and_true false = refl

    and_false : (a : Bool) → false ≡ a && false
    and_false true = refl
    and_false false = refl

    same : (q : ℕ) → has q (row b p (dedup (sort_by itself ws))) ≡ has (p * b + q) ws && ltb q b
    same q =
        by_order (suc q) b
        (λ g. rw (lt-ltb q b g) (row_has b h p q (dedup (sort_by itself ws)) g ∙ dedup_has (p * b + q) (sort_by itself ws) ∙ sort_has (p * b + q) ws ∙ and_true (has (p * b + q) ws)))
        (λ g. rw (le-ltb q b (omega arith)) (under_has b q (row b p (dedup (sort_by itself ws))) (row_below b h p (dedup (sort_by itself ws))) (omega arith) ∙ and_false (has (p * b + q) ws)))
