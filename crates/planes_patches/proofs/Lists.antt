-- Lists of numbers below n: filters, first matches, and `map` over 0 .. n - 1 when one place changes (`map_set`) or one more is made
-- (`map_push`).
use mathlib.Core.Path.{◌≡◌, refl, sym, ap, ◌∙◌}
use mathlib.Core.Bool.{Bool, true, false, cond, ◌&&◌}
use mathlib.Core.List.{List, [], ◌∷◌, ◌++◌, map, flat_map, append_assoc}
use Prim.Native.Nat.{ℕ, zero, suc, ◌<◌}
use native.Mathlib.Nat.{le_refl, not-suc-le-zero}
use native.Mathlib.Omega.{arith}
use lib.Dec.{ltb}
use lib.ListN.{length, set, length-set}
use lib.Seq.{get_or-set_same, get_or-set_other, ext_get_or}
use borrow.Author.Tests.{lt-ltb, le-ltb}
use Rattle.order.specs.Runs.{first_by, up_to}
use Rattle.order.proofs.Stable.{by-eq}
use Rattle.order.proofs.Runs.{first_append}
use Rattle.order.proofs.Positions.{up_to_length, get_or_map_up_to, Under, under_append, under_up_to}
use Rattle.planes_patches.specs.Lists.{keep_if, filter_by}

pub and_true : (a : Bool) → a && true ≡ a
and_true true = refl
and_true false = refl

-- ---- all elements are below n

pub under_filter : (n : ℕ) (p : ℕ → Bool) (xs : List ℕ) → Under n xs → Under n (filter_by p xs)
unfolding Under filter_by
under_filter n p [] u = tt
under_filter n p (x ∷ xs) u = go (p x) (under_filter n p xs u.1)
  where
    go : (b : Bool) → Under n (filter_by p xs) → Under n (keep_if b x (filter_by p xs))
    go true r = (u.0, r)
    go false r = r

pub under_flat : {C : Type 0} (n : ℕ) (f : C → List ℕ) (cs : List C) → ((c : C) → Under n (f c)) → Under n (flat_map f cs)
unfolding flat_map Under
under_flat n f [] h = tt
under_flat n f (c ∷ cs) h = under_append n (f c) (flat_map f cs) (h c) (under_flat n f cs h)

-- ---- filters

pub filter_append : (p : ℕ → Bool) (xs ys : List ℕ) → filter_by p (xs ++ ys) ≡ filter_by p xs ++ filter_by p ys
unfolding filter_by
filter_append p [] ys = refl
filter_append p (x ∷ xs) ys = go (p x) (filter_append p xs ys)
  where
    go : (b : Bool) → filter_by p (xs ++ ys) ≡ filter_by p xs ++ filter_by p ys → keep_if b x (filter_by p (xs ++ ys)) ≡ keep_if b x (filter_by p xs) ++ filter_by p ys
    go true r = ap (λ (l : List ℕ). x ∷ l) r
    go false r = r

-- one more number
pub filter_more : (p : ℕ → Bool) (n : ℕ) → filter_by p (up_to (suc n)) ≡ filter_by p (up_to n) ++ keep_if (p n) n []
unfolding up_to filter_by
filter_more p n = filter_append p (up_to n) (n ∷ [])

filter_in : (p q : ℕ → Bool) (n : ℕ) (xs : List ℕ) → Under n xs → ((i : ℕ) → i < n → p i ≡ q i) → filter_by p xs ≡ filter_by q xs
unfolding Under filter_by
filter_in p q n [] u e = refl
filter_in p q n (x ∷ xs) u e = rw (e x u.0, filter_in p q n xs u.1 e)

-- two tests that agree below n
pub filter_under : (p q : ℕ → Bool) (n : ℕ) → ((i : ℕ) → i < n → p i ≡ q i) → filter_by p (up_to n) ≡ filter_by q (up_to n)
filter_under p q n e = filter_in p q n (up_to n) (under_up_to n) e

-- none passes
pub filter_none : (p : ℕ → Bool) (n : ℕ) → ((i : ℕ) → i < n → p i ≡ false) → filter_by p (up_to n) ≡ []
unfolding Under filter_by
filter_none p n e = go (up_to n) (under_up_to n)
  where
    go : (xs : List ℕ) → Under n xs → filter_by p xs ≡ []
    go [] u = refl
    go (x ∷ xs) u = rw (e x u.0) (go xs u.1)

-- ---- first matches

-- the first match of those that pass, in one test
pub first_filter : (k m : ℕ → Bool) (d : ℕ) (xs : List ℕ) → first_by m d (filter_by k xs) ≡ first_by (λ j. k j && m j) d xs
unfolding first_by filter_by
first_filter k m d [] = refl
first_filter k m d (x ∷ xs) = go (k x) (first_filter k m d xs)
  where
    go : (b : Bool) → first_by m d (filter_by k xs) ≡ first_by (λ j. k j && m j) d xs → first_by m d (keep_if b x (filter_by k xs)) ≡ cond (b && m x) x (first_by (λ j. k j && m j) d xs)
    go true r = ap (λ (t : ℕ). cond (m x) x t) r
    go false r = r

-- no number below n matches
pub first_none : (p : ℕ → Bool) (d n : ℕ) → ((j : ℕ) → j < n → p j ≡ false) → first_by p d (up_to n) ≡ d
unfolding first_by up_to
first_none p d zero e = refl
first_none p d (suc n) e = first_append p d (up_to n) (n ∷ []) ∙ rw (e n (le_refl (suc n))) (first_none p d n (λ j l. e j (omega arith)))

-- i matches, and none before it
pub first_at_lem : (p : ℕ → Bool) (d n i : ℕ) → i < n → p i ≡ true → ((j : ℕ) → j < i → p j ≡ false) → first_by p d (up_to n) ≡ i
unfolding first_by up_to
first_at_lem p d zero i l m e = absurd (not-suc-le-zero l)
first_at_lem p d (suc n) i l m e =
    first_append p d (up_to n) (n ∷ [])
    ∙ by-eq i n (λ s. rw (← s, m) (first_none p i i e)) (λ ne. first_at_lem p (cond (p n) n d) n i (omega arith) m e)

-- with n for 'none found', another default
first_else : (p : ℕ → Bool) (n d : ℕ) (xs : List ℕ) → Under n xs → first_by p d xs ≡ cond (ltb (first_by p n xs) n) (first_by p n xs) d
unfolding Under first_by
first_else p n d [] u = sym (ap (λ (b : Bool). cond b n d) (le-ltb n n (le_refl n)))
first_else p n d (x ∷ xs) u = go (p x) (first_else p n d xs u.1)
  where
    go : (b : Bool) → first_by p d xs ≡ cond (ltb (first_by p n xs) n) (first_by p n xs) d
        → cond b x (first_by p d xs) ≡ cond (ltb (cond b x (first_by p n xs)) n) (cond b x (first_by p n xs)) d
    go true r = sym (ap (λ (b : Bool). cond b x d) (lt-ltb x n u.0))
    go false r = r

-- the first match of one list, else of another
pub first_both : (p : ℕ → Bool) (n : ℕ) (xs ys : List ℕ) → Under n xs
    → first_by p n (xs ++ ys) ≡ cond (ltb (first_by p n xs) n) (first_by p n xs) (first_by p n ys)
first_both p n xs ys u = first_append p n xs ys ∙ first_else p n (first_by p n ys) xs u

pub flat_append : {C : Type 0} (f : C → List ℕ) (xs ys : List C) → flat_map f (xs ++ ys) ≡ flat_map f xs ++ flat_map f ys
unfolding flat_map
flat_append f [] ys = refl
flat_append f (x ∷ xs) ys = ap (λ (l : List ℕ). f x ++ l) (flat_append f xs ys) ∙ sym (append_assoc (f x) (flat_map f xs) (flat_map f ys))

-- ---- a list of records: `map f (up_to n)`

length_map : {A : Type 0} (f : ℕ → A) (xs : List ℕ) → length (map f xs) ≡ length xs
length_map f [] = refl
length_map f (x ∷ xs) = ap suc (length_map f xs)

pub length_up_to : {A : Type 0} (f : ℕ → A) (n : ℕ) → length (map f (up_to n)) ≡ n
length_up_to f n = length_map f (up_to n) ∙ up_to_length n

map_in : {A : Type 0} (f g : ℕ → A) (n : ℕ) (xs : List ℕ) → Under n xs → ((p : ℕ) → p < n → f p ≡ g p) → map f xs ≡ map g xs
unfolding Under
map_in f g n [] u e = refl
map_in f g n (x ∷ xs) u e = rw (e x u.0, map_in f g n xs u.1 e)

pub map_under : {A : Type 0} (f g : ℕ → A) (n : ℕ) → ((p : ℕ) → p < n → f p ≡ g p) → map f (up_to n) ≡ map g (up_to n)
map_under f g n e = map_in f g n (up_to n) (under_up_to n) e

-- one place changes
pub map_set : {A : Type 0} (d : A) (f g : ℕ → A) (n h : ℕ) → h < n → ((p : ℕ) → p < n → (p ≡ h → ⊥) → f p ≡ g p) → set (map f (up_to n)) h (g h) ≡ map g (up_to n)
map_set d f g n h l e =
    let lf = length_up_to f n in
    let lg = length_up_to g n in
    let ls = length-set (map f (up_to n)) h (g h) in
    ext_get_or d (set (map f (up_to n)) h (g h)) (map g (up_to n)) (ls ∙ lf ∙ sym lg)
    (λ i q.
    let in_n : i < n = omega arith in
    by-eq i h
    (λ s. rw s (get_or-set_same (map f (up_to n)) h (g h) d (omega arith) ∙ sym (get_or_map_up_to g n h d l)))
    (λ ne. get_or-set_other (map f (up_to n)) h i (g h) d ne ∙ get_or_map_up_to f n i d in_n ∙ e i in_n ne ∙ sym (get_or_map_up_to g n i d in_n)))

map_snoc : {A : Type 0} (g : ℕ → A) (xs : List ℕ) (n : ℕ) → map g (xs ++ (n ∷ [])) ≡ map g xs ++ (g n ∷ [])
map_snoc g [] n = refl
map_snoc g (x ∷ xs) n = ap (λ (l : List _). g x ∷ l) (map_snoc g xs n)

-- one more
pub map_push : {A : Type 0} (f g : ℕ → A) (n : ℕ) → ((p : ℕ) → p < n → f p ≡ g p) → map f (up_to n) ++ (g n ∷ []) ≡ map g (up_to (suc n))
unfolding up_to
map_push f g n e = ap (λ (l : List _). l ++ (g n ∷ [])) (map_under f g n e) ∙ sym (map_snoc g (up_to n) n)
