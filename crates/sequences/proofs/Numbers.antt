-- `visited` is what document 01 says of the images visited, no other list is, and its images are numbered as document 01 says.
-- By induction over the list: the first n of a list in order, and places in it.
use Prim.Native.Nat.{ℕ, zero, suc, ◌-◌, ◌≤◌, ◌<◌}
use mathlib.Core.Path.{◌≡◌, refl, sym, ap, subst, ◌∙◌}
use mathlib.Core.Logic.{◌⊎◌, inl, inr, ⊎_elim, ◌↔◌}
use mathlib.Core.List.{List, [], ◌∷◌}
use native.Mathlib.Omega.{arith}
use native.Mathlib.Decide.{dec_lt}
use lib.ListN.{length, get_or, take, length-take}
use lib.Seq.{ext_get_or}
use Rattle.sequences.specs.Allowed.{most, allowed, visited}
use Rattle.sequences.specs.Members.{IsAllowed, In, Before, InOrder, Image, IsVisited, IsNumbered}
use Rattle.sequences.proofs.Membership.{allowed_only, allowed_all, allowed_order, order_once, before_not}

-- ---- the first n of a list in order

in_take : (s : List ℕ) (n : ℕ) (l : List (List ℕ)) → In s (take n l) → In s l
in_take s zero l i = absurd i
in_take s (suc n) [] i = i
in_take s (suc n) (t ∷ l) i = ⊎_elim (λ e. inl e) (λ j. inr (in_take s n l j)) i

order_take : (n : ℕ) (l : List (List ℕ)) → InOrder l → InOrder (take n l)
order_take zero l o = tt
order_take (suc n) [] o = tt
order_take (suc n) (s ∷ l) o = ((λ t i. o.0 t (in_take t n l i)), order_take n l o.1)

take_till :
    (n : ℕ) (l : List (List ℕ)) → InOrder l → (s : List ℕ) → In s l →
    In s (take n l) ⊎ ((length (take n l) ≡ n) × ((t : List ℕ) → In t (take n l) → Before t s))
take_till zero l o s h = inr (refl, (λ t i. absurd i))
take_till (suc n) [] o s h = absurd h
take_till (suc n) (x ∷ l) o s h =
    ⊎_elim (λ e. inl (inl e))
    (λ i.
    ⊎_elim (λ j. inl (inr j))
    (λ j. inr (ap suc j.0, (λ t k. ⊎_elim (λ q. subst (λ (u : List ℕ). Before u s) (sym q) (o.0 s i)) (λ m. j.1 t m) k)))
    (take_till n l o.1 s i)) h

take_cap : (n : ℕ) (l : List (List ℕ)) → length (take n l) ≤ n
take_cap n l = let e = length-take n l in omega arith

-- `visited` is "all of them in this order, or the first 250,000 where there are more"
pub is_visited : (on : List ℕ) (order : ℕ) → IsVisited on order (visited on order)
is_visited on order = record {
  only = (λ s i. allowed_only on order s (in_take s most (allowed on order) i));
  in_order = order_take most (allowed on order) (allowed_order on order);
  cap = take_cap most (allowed on order);
  till = (λ s a. take_till most (allowed on order) (allowed_order on order) s (allowed_all on order s a));
}

-- ---- numbers

pub in_at : (l : List (List ℕ)) (i : ℕ) → i < length l → In (get_or l i []) l
in_at [] i h = absurd (omega arith)
in_at (s ∷ l) zero h = inl refl
in_at (s ∷ l) (suc i) h = inr (in_at l i (omega arith))

place_of : (s : List ℕ) (l : List (List ℕ)) → In s l → (i : ℕ) × (i < length l) × (get_or l i [] ≡ s)
place_of s [] h = absurd h
place_of s (t ∷ l) h =
    ⊎_elim (λ e. (0, omega arith, sym e)) (λ i. let r = place_of s l i in let k = r.1 in (suc r.0, omega arith, r.2)) h

image_of : (s : List ℕ) (l : List (List ℕ)) → In s l → (n : ℕ) × Image l n s
image_of s l h =
    let r = place_of s l h in
    let k = r.1 in
    let e : suc r.0 - 1 ≡ r.0 = omega arith in
    (suc r.0, record { low = omega arith; high = omega arith; is = ap (λ (m : ℕ). get_or l m []) e ∙ r.2 })

order_at : (l : List (List ℕ)) → InOrder l → (i j : ℕ) → i < j → j < length l → Before (get_or l i []) (get_or l j [])
order_at [] o i j h k = absurd (omega arith)
order_at (s ∷ l) o i zero h k = absurd (omega arith)
order_at (s ∷ l) o zero (suc j) h k = o.0 (get_or l j []) (in_at l j (omega arith))
order_at (s ∷ l) o (suc i) (suc j) h k = order_at l o.1 i j (omega arith) (omega arith)

apart : (l : List (List ℕ)) → InOrder l → (i j : ℕ) → i < j → j < length l → get_or l i [] ≡ get_or l j [] → ⊥
apart l o i j h k e = before_not (get_or l j []) (subst (λ (u : List ℕ). Before u (get_or l j [])) e (order_at l o i j h k))

module _ (l : List (List ℕ)) (o : InOrder l) (m n : ℕ) (s t : List ℕ) (a : Image l m s) (b : Image l n t) where
  number_rising : m < n → Before s t
  number_rising h =
      let p = a.low in
      let q = b.high in
      subst (λ (u : List ℕ). Before u t) a.is
      (subst (λ (u : List ℕ). Before (get_or l (m - 1) []) u) b.is (order_at l o (m - 1) (n - 1) (omega arith) (omega arith)))

  number_same : (m ≡ n) ↔ (s ≡ t)
  number_same = ((λ e. sym a.is ∙ ap (λ (k : ℕ). get_or l (k - 1) []) e ∙ b.is), (λ e. by e (dec_lt m n) (dec_lt n m)))
    where
      by : s ≡ t → Dec (m < n) → Dec (n < m) → m ≡ n
      by e (yes h) q =
          let g = a.low in
          let k = b.high in
          absurd (apart l o (m - 1) (n - 1) (omega arith) (omega arith) (a.is ∙ e ∙ sym b.is))
      by e (no h) (yes k) =
          let g = b.low in
          let j = a.high in
          absurd (apart l o (n - 1) (m - 1) (omega arith) (omega arith) (b.is ∙ sym e ∙ sym a.is))
      by e (no h) (no k) = omega arith

order_numbered : (l : List (List ℕ)) → InOrder l → IsNumbered l
order_numbered l o = record {
  once = order_once l o;
  gapless = (λ n h k. (get_or l (n - 1) [], record { low = h; high = k; is = refl }));
  numbered = (λ s i. image_of s l i);
  rising = (λ m n s t a b. number_rising l o m n s t a b);
  same = (λ m n s t a b. number_same l o m n s t a b);
}

-- the images visited are numbered from 1 in the order, and two are equal in number exactly when their sequences are equal
pub is_numbered : (on : List ℕ) (order : ℕ) → IsNumbered (visited on order)
is_numbered on order = order_numbered (visited on order) (is_visited on order).in_order

-- "Two sequences are equal when they have the same length and the same plane index at each place"
pub same_sequence :
    (s t : List ℕ) → (s ≡ t) ↔ ((length s ≡ length t) × ((i : ℕ) → i < length s → get_or s i 0 ≡ get_or t i 0))
same_sequence s t = ((λ e. (ap length e, (λ i h. ap (λ (l : List ℕ). get_or l i 0) e))), (λ h. ext_get_or 0 s t h.0 h.1))

-- ---- no other list is as said

before_once : (s t : List ℕ) → Before s t → Before t s → ⊥
before_once [] [] h k = h
before_once [] (y ∷ t) h k = k
before_once (x ∷ s) [] h k = h
before_once (x ∷ s) (y ∷ t) h k =
    let r = before_once s t in
    ⊎_elim
    (λ l.
    ⊎_elim (λ m. let a : x < y = l in let b : y < x = m in omega arith)
    (λ m. let a : x < y = l in let b : y ≡ x = m.0 in omega arith) k)
    (λ l. ⊎_elim (λ m. let a : x ≡ y = l.0 in let b : y < x = m in omega arith) (λ m. r l.1 m.1) k) h

-- the first n of those that have A, in order
record First (A : List ℕ → Type 0) (n : ℕ) (l : List (List ℕ)) : Type 0 where
  only : (s : List ℕ) → In s l → A s
  order : InOrder l
  cap : length l ≤ n
  till : (s : List ℕ) → A s → In s l ⊎ ((length l ≡ n) × ((t : List ℕ) → In t l → Before t s))

first_none : (A : List ℕ → Type 0) (n : ℕ) (y : List ℕ) (m : List (List ℕ)) → First A n [] → First A n (y ∷ m) → ⊥
first_none A n y m a b =
    ⊎_elim (λ h. h) (λ h. let e : 0 ≡ n = h.0 in let l : suc (length m) ≤ n = b.cap in omega arith) (a.till y (b.only y (inl refl)))

first_head :
    (A : List ℕ → Type 0) (n : ℕ) (x y : List ℕ) (l m : List (List ℕ)) → First A n (x ∷ l) → First A n (y ∷ m) → (x ≡ y) ⊎ Before y x
first_head A n x y l m a b =
    ⊎_elim (λ h. ⊎_elim (λ e. inl e) (λ i. inr (b.order.0 x i)) h) (λ h. inr (h.1 y (inl refl))) (b.till x (a.only x (inl refl)))

first_tail :
    (A : List ℕ → Type 0) (n : ℕ) (x : List ℕ) (l : List (List ℕ)) → First A n (x ∷ l) → First (λ s. A s × Before x s) (n - 1) l
first_tail A n x l a =
    let m : suc (length l) ≤ n = a.cap in
    record {
      only = (λ s h. (a.only s (inr h), a.order.0 s h));
      order = a.order.1;
      cap = omega arith;
      till =
          (λ s p.
          ⊎_elim (λ h. ⊎_elim (λ e. absurd (before_not x (subst (Before x) e p.1))) (λ i. inl i) h)
          (λ h. let e : suc (length l) ≡ n = h.0 in inr (omega arith, (λ t i. h.1 t (inr i)))) (a.till s p.0));
    }

first_same : (A : List ℕ → Type 0) (n : ℕ) (l m : List (List ℕ)) → First A n l → First A n m → l ≡ m
first_same A n [] [] a b = refl
first_same A n [] (y ∷ m) a b = absurd (first_none A n y m a b)
first_same A n (x ∷ l) [] a b = absurd (first_none A n x l b a)
first_same A n (x ∷ l) (y ∷ m) a b =
    let rest : (k : List (List ℕ)) → First (λ s. A s × Before x s) (n - 1) l → First (λ s. A s × Before x s) (n - 1) k → l ≡ k =
    λ k. first_same (λ s. A s × Before x s) (n - 1) l k in
    let e : x ≡ y =
    ⊎_elim (λ e. e) (λ p. ⊎_elim (λ e. sym e) (λ q. absurd (before_once x y q p)) (first_head A n y x m l b a)) (first_head A n x y l m a b) in
    let b' : First A n (x ∷ m) = subst (λ (z : List ℕ). First A n (z ∷ m)) (sym e) b in
    let r = rest m (first_tail A n x l a) (first_tail A n x m b') in
    λ i. e i ∷ r i

first : (on : List ℕ) (order : ℕ) (l : List (List ℕ)) → IsVisited on order l → First (IsAllowed on order) most l
first on order l v = record { only = v.only; order = v.in_order; cap = v.cap; till = v.till }

-- a list that is as document 01 says is `visited`
pub visited_alone : (on : List ℕ) (order : ℕ) (l : List (List ℕ)) → IsVisited on order l → l ≡ visited on order
visited_alone on order l v =
    first_same (IsAllowed on order) most l (visited on order) (first on order l v) (first on order (visited on order) (is_visited on order))
