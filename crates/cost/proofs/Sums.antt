-- What is summed over the sequences by their lengths is summed over how many have each length: so the eight counts give the images and the rays.
use Prim.Native.Nat.{ℕ, zero, suc, ◌+◌, ◌*◌, ◌≤◌, ◌<◌}
use mathlib.Core.Path.{◌≡◌, refl, sym, ap, ap₂, ◌∙◌}
use mathlib.Core.Bool.{Bool, cond}
use mathlib.Core.Logic.{inl, inr, ⊎_elim}
use mathlib.Core.List.{List, [], ◌∷◌, ◌++◌}
use native.Mathlib.Nat.{mul-add, mul-zero, mul-one, one-mul, eq-or-lt_of_le}
use native.Mathlib.Omega.{arith}
use lib.ListN.{length, get_or, replicate}
use lib.Dec.{eqb}
use borrow.Author.Tests.{eq-eqb, ne_eqb}
use Rattle.sequences.specs.Allowed.{visited}
use Rattle.sequences.specs.Members.{In}
use Rattle.sequences.proofs.Numbers.{is_visited}
use Rattle.cost.specs.Cost.{rays_at, rays_over}
use Rattle.cost.specs.Forecast.{of_length, most_rays, total}

module _ (f : ℕ → ℕ) where
  -- f of each length
  unfoldable over : List (List ℕ) → ℕ
  over [] = 0
  over (q ∷ qs) = f (length q) + over qs

  -- f of each of the j lengths from n on, as often as it is there
  unfoldable by_length : ℕ → ℕ → List (List ℕ) → ℕ
  by_length n zero qs = 0
  by_length n (suc j) qs = f n * of_length n qs + by_length (suc n) j qs

  -- the same of counts
  unfoldable weighed : ℕ → List ℕ → ℕ
  weighed n [] = 0
  weighed n (k ∷ ks) = f n * k + weighed (suc n) ks

  none : (n j : ℕ) → by_length n j [] ≡ 0
  unfolding by_length of_length
  none n zero = refl
  none n (suc j) = let a = mul-zero (f n) in let b = none (suc n) j in omega arith

  -- a sequence shorter than all of them is counted nowhere
  shorter : (n j : ℕ) (q : List ℕ) (qs : List (List ℕ)) → length q < n → by_length n j (q ∷ qs) ≡ by_length n j qs
  unfolding by_length of_length
  shorter n zero q qs h = refl
  shorter n (suc j) q qs h =
      ap₂ (λ (a b : ℕ). f n * a + b)
      (ap (λ (b : Bool). cond b 1 0 + of_length n qs) (ne_eqb (length q) n (λ e. omega arith)) ∙ (let e : 0 + of_length n qs ≡ of_length n qs = omega arith in e))
      (shorter (suc n) j q qs (omega arith))

  -- each other once
  once : (n j : ℕ) (q : List ℕ) (qs : List (List ℕ)) → n ≤ length q → length q < n + j → by_length n j (q ∷ qs) ≡ f (length q) + by_length n j qs
  unfolding by_length of_length
  once n zero q qs h l = absurd (let z : ⊥ = omega arith in z)
  once n (suc j) q qs h l = ⊎_elim here (λ m. later m (once (suc n) j q qs m (omega arith))) (eq-or-lt_of_le h)
    where
      here : n ≡ length q → f n * (cond (eqb (length q) n) 1 0 + of_length n qs) + by_length (suc n) j (q ∷ qs) ≡ f (length q) + (f n * of_length n qs + by_length (suc n) j qs)
      here e =
          let a : f n * (1 + of_length n qs) ≡ f n * 1 + f n * of_length n qs = mul-add (f n) 1 (of_length n qs) in
          let b : f n * 1 ≡ f n = mul-one (f n) in
          let c = shorter (suc n) j q qs (omega arith) in
          let d : f n ≡ f (length q) = ap f e in
          rw (eq-eqb (length q) n (sym e))
          (let z : f n * (1 + of_length n qs) + by_length (suc n) j (q ∷ qs) ≡ f (length q) + (f n * of_length n qs + by_length (suc n) j qs) = omega arith in z)

      later :
          n < length q → by_length (suc n) j (q ∷ qs) ≡ f (length q) + by_length (suc n) j qs →
          f n * (cond (eqb (length q) n) 1 0 + of_length n qs) + by_length (suc n) j (q ∷ qs) ≡ f (length q) + (f n * of_length n qs + by_length (suc n) j qs)
      later m c =
          let a : f n * (0 + of_length n qs) ≡ f n * of_length n qs = ap (λ (k : ℕ). f n * k) (let z : 0 + of_length n qs ≡ of_length n qs = omega arith in z) in
          rw (ne_eqb (length q) n (λ e. omega arith))
          (let z : f n * (0 + of_length n qs) + by_length (suc n) j (q ∷ qs) ≡ f (length q) + (f n * of_length n qs + by_length (suc n) j qs) = omega arith in z)

  -- all of them
  all_lengths : (n j : ℕ) (qs : List (List ℕ)) → ((q : List ℕ) → In q qs → (n ≤ length q) × (length q < n + j)) → over qs ≡ by_length n j qs
  unfolding over
  all_lengths n j [] h = sym (none n j)
  all_lengths n j (q ∷ qs) h =
      ap (λ (k : ℕ). f (length q) + k) (all_lengths n j qs (λ s i. h s (inr i))) ∙ sym (once n j q qs (h q (inl refl)).0 (h q (inl refl)).1)

  -- counts that are as many as have each length
  same_weight : (n : ℕ) (ks : List ℕ) (qs : List (List ℕ)) → ((k : ℕ) → k < length ks → get_or ks k 0 ≡ of_length (n + k) qs) → weighed n ks ≡ by_length n (length ks) qs
  unfolding weighed by_length
  same_weight n [] qs h = refl
  same_weight n (k ∷ ks) qs h =
      ap₂ (λ (a b : ℕ). f n * a + b) (h 0 (omega arith) ∙ ap (λ (a : ℕ). of_length a qs) (let e : n + 0 ≡ n = omega arith in e))
      (same_weight (suc n) ks qs (λ i l. h (suc i) (omega arith) ∙ ap (λ (a : ℕ). of_length a qs) (let e : n + suc i ≡ suc n + i = omega arith in e)))

  -- the law
  by_counts :
      (ks : List ℕ) (qs : List (List ℕ)) → ((k : ℕ) → k < length ks → get_or ks k 0 ≡ of_length (1 + k) qs) →
      ((q : List ℕ) → In q qs → (1 ≤ length q) × (length q < 1 + length ks)) → weighed 1 ks ≡ over qs
  by_counts ks qs h few = same_weight 1 ks qs h ∙ sym (all_lengths 1 (length ks) qs few)

-- of the sum and of the rays
total_is : (n : ℕ) (ks : List ℕ) → total ks ≡ weighed (λ _. 1) n ks
unfolding total weighed
total_is n [] = refl
total_is n (k ∷ ks) = let a = total_is (suc n) ks in let b = one-mul k in omega arith

length_is : (qs : List (List ℕ)) → length qs ≡ over (λ _. 1) qs
unfolding over
length_is [] = refl
length_is (q ∷ qs) = let a = length_is qs in omega arith

rays_are : (limit n : ℕ) (ks : List ℕ) → rays_over limit n ks ≡ weighed (rays_at limit) n ks
unfolding rays_over weighed
rays_are limit n [] = refl
rays_are limit n (k ∷ ks) = ap (λ (a : ℕ). rays_at limit n * k + a) (rays_are limit (suc n) ks)

most_are : (limit : ℕ) (qs : List (List ℕ)) → most_rays limit qs ≡ over (rays_at limit) qs
unfolding most_rays over
most_are limit [] = refl
most_are limit (q ∷ qs) = ap (λ (a : ℕ). rays_at limit (length q) + a) (most_are limit qs)

-- counts of sequences that have each from 1 to `length ks` planes
pub record Summed (limit : ℕ) (ks : List ℕ) (qs : List (List ℕ)) : Type 0 where
  pub sum : total ks ≡ length qs
  pub rays : rays_over limit 1 ks ≡ most_rays limit qs

pub summed :
    (limit : ℕ) (ks : List ℕ) (qs : List (List ℕ)) → ((k : ℕ) → k < length ks → get_or ks k 0 ≡ of_length (suc k) qs) →
    ((q : List ℕ) → In q qs → (1 ≤ length q) × (length q < 1 + length ks)) → Summed limit ks qs
summed limit ks qs h few =
    let each : (k : ℕ) → k < length ks → get_or ks k 0 ≡ of_length (1 + k) qs = λ k l. h k l ∙ ap (λ (a : ℕ). of_length a qs) (let e : suc k ≡ 1 + k = omega arith in e) in
    record {
      sum = total_is 1 ks ∙ by_counts (λ _. 1) ks qs each few ∙ sym (length_is qs);
      rays = rays_are limit 1 ks ∙ by_counts (rays_at limit) ks qs each few ∙ sym (most_are limit qs);
    }

-- ---- eight counts

zeros_at : (n i : ℕ) → ◌≡◌ {A = ℕ} (get_or (replicate n 0) i 0) 0
zeros_at zero i = refl
zeros_at (suc n) zero = refl
zeros_at (suc n) (suc i) = zeros_at n i

-- zeros behind a list are what stands past its end
pub padded_at : (l : List ℕ) (n i : ℕ) → get_or (l ++ replicate n 0) i 0 ≡ get_or l i 0
padded_at [] n i = zeros_at n i
padded_at (x ∷ l) n zero = refl
padded_at (x ∷ l) n (suc i) = padded_at l n i

-- a visited sequence has 1 to `order` planes
pub visited_few : (on : List ℕ) (order : ℕ) → order ≤ 8 → (q : List ℕ) → In q (visited on order) → (1 ≤ length q) × (length q < 9)
visited_few on order h q i = let a = (is_visited on order).only q i in few (length q) a.some a.few
  where
    few : (n : ℕ) → 1 ≤ n → n ≤ order → (1 ≤ n) × (n < 9)
    few n a b = (a, omega arith)
