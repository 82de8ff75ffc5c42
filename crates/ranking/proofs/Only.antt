-- What `Listed` says leaves nothing open: two lists that it describes are equal. By induction over what the two have in common at the front: of two
-- that stand next, the better one would stand in both.
--     only_one      two lists of the same candidates are equal
--     is_ranked     a list of the candidates is `ranked`
use Prim.Native.Nat.{ℕ, ◌+◌, ◌<◌}
use mathlib.Core.Path.{◌≡◌, refl, sym, ap, subst, ◌∙◌}
use mathlib.Core.Bool.{Bool, true, false}
use mathlib.Core.Logic.{inl, inr, ⊎_elim}
use mathlib.Core.List.{List, [], ◌∷◌, ◌++◌, append_assoc}
use native.Mathlib.Omega.{arith}
use lib.Dec.{ltb}
use lib.Ieee.{Float}
use Rattle.float.proofs.Numbers.{by_order}
use Rattle.ranking.specs.declared.Candidate.{Candidate}
use Rattle.ranking.specs.Lists.{Has, BestFirst, ahead}
use Rattle.ranking.specs.Candidate.{better, duplicates, ranked, Rankable}
use Rattle.ranking.specs.Listed.{Once, Listed}
use Rattle.ranking.proofs.Members.{has_append, has_left, has_right}
use Rattle.ranking.proofs.Keys.{rank_key, better_key, key_number}
use Rattle.ranking.proofs.Choose.{better_less, less_better, strict, ahead_none}
use Rattle.ranking.proofs.Laws.{number_one, ranked_listed}

module _ {A : Type 0} (bt dup : A → A → Bool) (P : A → Type 0) (key : A → ℕ) (by_key : (a b : A) → P a → P b → bt a b ≡ ltb (key a) (key b))
    (one : (a b : A) → P a → P b → key a ≡ key b → a ≡ b) (n : ℕ) where
  record Why (ts : List A) (c : A) : Type 0 where
    is : P c
    fresh : (k : A) → Has k ts → bt k c ≡ true → dup k c ≡ false
    room : ahead bt c ts < n

  record Described (ts : List A) : Type 0 where
    best : BestFirst bt ts
    why : (c : A) → Has c ts → Why ts c
    there : (c : A) → Why ts c → Has c ts

  self : (x : A) → P x → bt x x ≡ true → ⊥
  self x p e = strict bt P key by_key x x p p e e

  ahead_append : (c : A) (p r : List A) → ahead bt c (p ++ r) ≡ ahead bt c p + ahead bt c r
  unfolding ahead
  ahead_append c [] r = omega arith
  ahead_append c (k ∷ p) r = let e = ahead_append c p r in omega arith

  best_front : (p : List A) (x : A) (r : List A) → BestFirst bt (p ++ x ∷ r) → (k : A) → Has k p → bt k x ≡ true
  best_front [] x r b k h = absurd h
  best_front (y ∷ p) x r b k h =
      let f = best_front p x r b.1 in
      ⊎_elim (λ e. ap (λ (z : A). bt z x) e ∙ b.0 x (has_right x p (x ∷ r) (inl refl))) (λ i. f k i) h

  best_back : (p : List A) (r : List A) → BestFirst bt (p ++ r) → BestFirst bt r
  best_back [] r b = b
  best_back (y ∷ p) r b = best_back p r b.1

  -- after one front, what one list has next and is better than all that the other has, the other would have
  stuck : (p : List A) (x : A) (r q : List A) → Described (p ++ x ∷ r) → Described (p ++ q) → ((k : A) → Has k q → bt x k ≡ true) → ⊥
  stuck p x r q a b f =
      let w = a.why x (has_right x p (x ∷ r) (inl refl)) in
      let px = w.is in
      let none : (k : A) → Has k q → bt k x ≡ true → ⊥ =
      λ k h e. strict bt P key by_key k x (b.why k (has_right k p q h)).is px e (f k h) in
      let z : ahead bt x q ≡ 0 = ahead_none bt dup x q none in
      let e1 = ahead_append x p q in
      let e2 = ahead_append x p (x ∷ r) in
      let m = w.room in
      let here : Why (p ++ q) x =
      record {
        is = px;
        fresh = (λ k h e. ⊎_elim (λ i. w.fresh k (has_left k p (x ∷ r) i) e) (λ i. absurd (none k i e)) (has_append k p q h));
        room = omega arith;
      } in
      ⊎_elim (λ i. self x px (best_front p x r a.best x i)) (λ i. self x px (f x i)) (has_append x p q (b.there x here))

  described_same : (p r q : List A) → Described (p ++ r) → Described (p ++ q) → r ≡ q
  described_same p [] [] a b = refl
  described_same p [] (y ∷ q) a b = absurd (stuck p y q [] b a (λ k h. absurd h))
  described_same p (x ∷ r) [] a b = absurd (stuck p x r [] a b (λ k h. absurd h))
  described_same p (x ∷ r) (y ∷ q) a b =
      let rest : (s : List A) → Described ((p ++ x ∷ []) ++ r) → Described ((p ++ x ∷ []) ++ s) → r ≡ s = λ s. described_same (p ++ x ∷ []) r s in
      let px = (a.why x (has_right x p (x ∷ r) (inl refl))).is in
      let py = (b.why y (has_right y p (y ∷ q) (inl refl))).is in
      let ba = best_back p (x ∷ r) a.best in
      let bb = best_back p (y ∷ q) b.best in
      let after : (u v : A) (s : List A) → P u → P v → ((k : A) → Has k s → P k) → BestFirst bt (v ∷ s) → key u < key v → (k : A) → Has k (v ∷ s) → bt u k ≡ true =
      λ u v s pu pv ps bs l k h.
      ⊎_elim (λ e. ap (bt u) e ∙ less_better bt P key by_key u v pu pv l)
      (λ i. let m = better_less bt P key by_key v k pv (ps k i) (bs.0 k i) in less_better bt P key by_key u k pu (ps k i) (omega arith)) h in
      by_order (key x) (key y)
      (λ le.
      by_order (key y) (key x)
      (λ ge.
      let e : x ≡ y = one x y px py (omega arith) in
      let b' : Described (p ++ x ∷ q) = subst (λ (z : A). Described (p ++ z ∷ q)) (sym e) b in
      let g = rest q (subst Described (sym (append_assoc p (x ∷ []) r)) a) (subst Described (sym (append_assoc p (x ∷ []) q)) b') in
      λ i. e i ∷ g i)
      (λ lt. absurd (stuck p x r (y ∷ q) a b (after x y q px py (λ k h. (b.why k (has_right k p (y ∷ q) (inr h))).is) bb lt))))
      (λ gt. absurd (stuck p y q (x ∷ r) b a (after y x r py px (λ k h. (a.why k (has_right k p (x ∷ r) (inr h))).is) ba gt)))

-- ---- candidates

module _ (speed rate : Float) (limit : ℕ) (cs : List Candidate) (rankable : (c : Candidate) → Has c cs → Rankable c) (once : Once cs) where
  keys : (c d : Candidate) → Has c cs → Has d cs → better c d ≡ ltb (rank_key c) (rank_key d)
  keys c d h k = better_key c d (rankable c h) (rankable d k)

  one_key : (c d : Candidate) → Has c cs → Has d cs → rank_key c ≡ rank_key d → c ≡ d
  one_key c d h k e = number_one cs once c d h k (key_number c d (rankable c h) (rankable d k) e)

  described : (taps : List Candidate) → Listed speed rate limit cs taps → Described better (duplicates speed rate) (λ c. Has c cs) rank_key keys one_key limit taps
  described taps k =
      record {
        best = k.best_first;
        why = (λ c h. let s = (k.exactly c).0 h in record { is = s.among; fresh = s.fresh; room = s.room });
        there = (λ c w. (k.exactly c).1 (record { among = w.is; fresh = w.fresh; room = w.room }));
      }

  pub only_one : (a b : List Candidate) → Listed speed rate limit cs a → Listed speed rate limit cs b → a ≡ b
  only_one a b k m = described_same better (duplicates speed rate) (λ c. Has c cs) rank_key keys one_key limit [] a b (described a k) (described b m)

  pub is_ranked : (taps : List Candidate) → Listed speed rate limit cs taps → taps ≡ ranked speed rate limit cs
  is_ranked taps k = only_one taps (ranked speed rate limit cs) k (ranked_listed speed rate limit cs rankable once)
