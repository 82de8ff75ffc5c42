-- An image number comes twice exactly where two neighbours in the sorted numbers are equal: `distinct` does not depend on the order of the list,
-- and in a sorted list a number's equals stand right after it.
use Prim.Native.Nat.{ℕ, suc, ◌+◌, ◌-◌, ◌*◌, ◌/◌, ◌≤◌, ◌<◌}
use mathlib.Core.Path.{◌≡◌, refl, sym, ap, subst, ◌∙◌}
use mathlib.Core.Bool.{Bool, true, false, not, ◌&&◌, ◌||◌}
use mathlib.Core.List.{List, [], ◌∷◌, ◌++◌, map, append-nil}
use native.Mathlib.Omega.{arith}
use native.Mathlib.Nat.{lt_of_lt_of_le}
use native.Mathlib.Numerals.{add-one}
use lib.ListN.{length, get_or, take, drop, set, replicate, length-replicate, length-map, length-drop, drop_of_length-le}
use lib.Seq.{sets, drop-cons, length-take-le}
use lib.Dec.{eqb}
use borrow.Author.Tests.{eq-eqb, ne_eqb}
use Rattle.order.specs.Sort.{sort_by, Perm, none, skip, swap, then}
use Rattle.order.specs.Radix.{upper}
use Rattle.order.proofs.Stable.{by-eq, sort_perm, Least, Chain, chain_sort}
use Rattle.packet.specs.Limits.{tap_words}
use Rattle.packet.specs.Tap.{taps_of}
use Rattle.packet.specs.Refusals.{member, distinct, number_of}
use Rattle.packet.specs.Helpers.{keys_of, none_repeats}
use Rattle.packet.proofs.Runs.{sets_front}
use Rattle.packet.proofs.Areas.{taps_from, numbers_step, numbers_done, taps_length}

-- ---- the order of a list does not matter

or_swap : (a b c : Bool) → (a || (b || c)) ≡ (b || (a || c))
or_swap true true c = refl
or_swap true false c = refl
or_swap false b c = refl

eqb_sym : (m n : ℕ) → eqb m n ≡ eqb n m
eqb_sym m n = by-eq m n (λ e. eq-eqb m n e ∙ sym (eq-eqb n m (sym e))) (λ h. ne_eqb m n h ∙ sym (ne_eqb n m (λ e. h (sym e))))

module _ (k : ℕ → ℕ) where
  member_perm : (n : ℕ) {xs ys : List ℕ} → Perm xs ys → member n (map k xs) ≡ member n (map k ys)
  member_perm n none = refl
  member_perm n (skip {x = x} p) = ap (λ (b : Bool). eqb n (k x) || b) (member_perm n p)
  member_perm n (swap {x = x} {y = y} {xs = xs}) = or_swap (eqb n (k x)) (eqb n (k y)) (member n (map k xs))
  member_perm n (then p q) = member_perm n p ∙ member_perm n q

  two_first : (e f a b d : Bool) → e ≡ f → (not (e || a) && (not b && d)) ≡ (not (f || b) && (not a && d))
  two_first true true a b d h = refl
  two_first true false a b d h = absurd (let z : ◌≡◌ {A = ℕ} 0 1 = cc in omega arith)
  two_first false true a b d h = absurd (let z : ◌≡◌ {A = ℕ} 0 1 = cc in omega arith)
  two_first false false true true d h = refl
  two_first false false true false d h = refl
  two_first false false false true d h = refl
  two_first false false false false d h = refl

  distinct_perm : {xs ys : List ℕ} → Perm xs ys → distinct (map k xs) ≡ distinct (map k ys)
  unfolding distinct
  distinct_perm none = refl
  distinct_perm (skip {x = x} p) = λ i. not (member_perm (k x) p i) && distinct_perm p i
  distinct_perm (swap {x = x} {y = y} {xs = xs}) =
      two_first (eqb (k x) (k y)) (eqb (k y) (k x)) (member (k x) (map k xs)) (member (k y) (map k xs)) (distinct (map k xs)) (eqb_sym (k x) (k y))
  distinct_perm (then p q) = distinct_perm p ∙ distinct_perm q

  -- ---- in a sorted list

  -- a number below all keys is none of them
  not_member : (n v : ℕ) (ys : List ℕ) → n < v → Least k v ys → member n (map k ys) ≡ false
  unfolding Least
  not_member n v [] h l = refl
  not_member n v (y ∷ ys) h l =
      let r = not_member n v ys h l.1 in
      let d : n < k y = lt_of_lt_of_le h l.0 in
      rw (ne_eqb n (k y) (λ e. omega arith), r)

  member_next : (x y : ℕ) (ys : List ℕ) → Least k (k x) (y ∷ ys) → Least k (k y) ys → member (k x) (map k (y ∷ ys)) ≡ eqb (k x) (k y)
  unfolding Least
  member_next x y ys l m =
      by-eq (k x) (k y)
      (λ e. rw (eq-eqb (k x) (k y) e))
      (λ h. let d : k x < k y = omega (arith, l.0, h) in rw (ne_eqb (k x) (k y) h, not_member (k x) (k y) ys d m))

sorted_distinct : (xs : List ℕ) → Chain upper xs → distinct (map upper xs) ≡ none_repeats xs
unfolding distinct none_repeats Chain
sorted_distinct [] c = refl
sorted_distinct (x ∷ []) c = refl
sorted_distinct (x ∷ y ∷ ys) c =
    λ i. not (member_next upper x y ys c.0 c.1.0 i) && sorted_distinct (y ∷ ys) c.1 i

-- ---- numbers as keys

keys_upper : (ns : List ℕ) → map upper (keys_of ns) ≡ ns
unfolding keys_of
keys_upper [] = refl
keys_upper (n ∷ ns) = let e : n * 4294967296 / 4294967296 ≡ n = omega arith in λ i. e i ∷ keys_upper ns i

-- the numbers are distinct exactly where no sorted key is followed by an equal one
pub sorted_keys : (ns : List ℕ) → none_repeats (sort_by upper (keys_of ns)) ≡ distinct ns
sorted_keys ns =
    sym (sorted_distinct (sort_by upper (keys_of ns)) (chain_sort upper (keys_of ns)))
    ∙ distinct_perm upper (sort_perm upper (keys_of ns))
    ∙ ap distinct (keys_upper ns)

-- ---- the loop that stores the keys

pub keys_step : (n i : ℕ) (a l final : List ℕ) → i < n → sets l i (keys_of (map number_of (taps_from n i a))) ≡ final
    → sets (set l i (get_or a (i * tap_words + 1) 0 * 4294967296)) (i + 1) (keys_of (map number_of (taps_from n (i + 1) a))) ≡ final
unfolding keys_of
keys_step n i a l final h e =
    ap (λ (j : ℕ). sets (set l i (get_or a (i * tap_words + 1) 0 * 4294967296)) j (keys_of (map number_of (taps_from n (i + 1) a)))) (add-one i)
    ∙ ap (λ (ns : List ℕ). sets l i (keys_of ns)) (sym (numbers_step n i a h))
    ∙ e

keys_length : (ns : List ℕ) → length (keys_of ns) ≡ length ns
unfolding keys_of
keys_length [] = refl
keys_length (n ∷ ns) = ap suc (keys_length ns)

pub keys_done : (n i : ℕ) (a l l₀ : List ℕ) → n ≤ i → length l₀ ≡ n → sets l i (keys_of (map number_of (taps_from n i a))) ≡ sets l₀ 0 (keys_of (map number_of (taps_of n a)))
    → l ≡ keys_of (map number_of (taps_of n a))
unfolding keys_of
keys_done n i a l l₀ h e f =
    let v : List ℕ = keys_of (map number_of (taps_of n a)) in
    let m : length v ≡ n = keys_length (map number_of (taps_of n a)) ∙ length-map (taps_of n a) number_of ∙ taps_length n a in
    let z : drop (length v) l₀ ≡ [] = drop_of_length-le l₀ {i = length v} (omega (arith, m, e)) in
    ap (λ (ns : List ℕ). sets l i (keys_of ns)) (sym (numbers_done n i a h)) ∙ f ∙ sets_front l₀ v (omega (arith, m, e)) ∙ ap (λ (r : List ℕ). v ++ r) z ∙ append-nil v

-- ---- the loop that compares neighbours

pub repeats_step : (l : List ℕ) (i : ℕ) → 1 ≤ i → i < length l
    → none_repeats (drop (i - 1) l) ≡ (not (eqb (upper (get_or l (i - 1) 0)) (upper (get_or l i 0))) && none_repeats (drop i l))
unfolding none_repeats
repeats_step l i h r =
    let e : suc (i - 1) ≡ i = omega arith in
    let d : drop i l ≡ get_or l i 0 ∷ drop (suc i) l = drop-cons l i 0 r in
    let c : drop (i - 1) l ≡ get_or l (i - 1) 0 ∷ get_or l i 0 ∷ drop (suc i) l =
    drop-cons l (i - 1) 0 (omega arith) ∙ ap (λ (j : ℕ). get_or l (i - 1) 0 ∷ drop j l) e ∙ ap (λ (m : List ℕ). get_or l (i - 1) 0 ∷ m) d in
    ap none_repeats c ∙ ap (λ (m : List ℕ). not (eqb (upper (get_or l (i - 1) 0)) (upper (get_or l i 0))) && none_repeats m) (sym d)

short_differs : (l : List ℕ) → length l ≤ 1 → none_repeats l ≡ true
unfolding none_repeats
short_differs [] h = refl
short_differs (x ∷ []) h = refl
short_differs (x ∷ y ∷ l) h = absurd (omega arith)

pub repeats_done : (l : List ℕ) (i : ℕ) → 1 ≤ i → length l ≤ i → none_repeats (drop (i - 1) l) ≡ true
repeats_done l i h r = short_differs (drop (i - 1) l) (let e = length-drop (i - 1) l in omega arith)

-- ---- the words lent for the keys

-- the first n of m words
abbrev pub part : ℕ → ℕ → List ℕ
part n m = take n (replicate m 0)

pub lent : (n m : ℕ) → n ≤ m → length (part n m) ≡ n
lent n m h =
    let zeros : List ℕ = replicate m 0 in
    let e = length-replicate {A = ℕ} m 0 in
    length-take-le n zeros (omega (arith, e))

pub lent_fits : (n m w k : ℕ) → n ≤ m → n * w ≤ k → length (part n m) * w ≤ k
lent_fits n m w k h e = subst (λ (x : ℕ). x * w ≤ k) (sym (lent n m h)) e
