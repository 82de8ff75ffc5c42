-- How many of the first L sequences have each length: by division.
use Prim.Native.Nat.{ℕ, zero, suc, ◌+◌, ◌-◌, ◌*◌, ◌/◌, ◌%◌, ◌≤◌, ◌<◌, min}
use mathlib.Core.Path.{◌≡◌, refl, sym, ap, ap₂, ◌∙◌, subst}
use mathlib.Core.Bool.{Bool, true, false, cond}
use mathlib.Core.Logic.{⊎_elim}
use mathlib.Core.List.{List, [], ◌∷◌, ◌++◌}
use native.Mathlib.Nat.{suc-mul, zero-mul, mul-zero, zero-lt-suc, mul_comm, mul-add, mul_assoc, mul-one}
use native.Mathlib.Nat.{div-eq_of_lt-le, mod-eq-sub-div-mul, mul-div_cancel, mul-mod_left, zero-div, zero-mod, eq-or-lt_of_le}
use native.Mathlib.Decide.{dec_le}
use native.Mathlib.Omega.{arith}
use lib.ListN.{length, get_or, take, length-append}
use lib.Dec.{eqb}
use borrow.Author.Tests.{eq-eqb, ne_eqb}
use Rattle.sequences.specs.Allowed.{upto, may, below, allowed, visited, most}
use Rattle.sequences.specs.Count.{more, count, series, firsts}
use Rattle.sequences.proofs.Counting.{one, upto_length, below_length, allowed_length, series_suc}
use Rattle.cost.specs.Cost.{levels, levels_of, counts_by_order}
use Rattle.cost.specs.Forecast.{of_length}

-- ---- lists

of_append : (n : ℕ) (a b : List (List ℕ)) → of_length n (a ++ b) ≡ of_length n a + of_length n b
unfolding of_length
of_append n [] b = omega arith
of_append n (q ∷ a) b = let e = of_append n a b in omega arith

of_take_left : (n l : ℕ) (a b : List (List ℕ)) → l ≤ length a → of_length n (take l (a ++ b)) ≡ of_length n (take l a)
unfolding of_length
of_take_left n zero a b h = refl
of_take_left n (suc l) [] b h = absurd (let no : ⊥ = omega arith in no)
of_take_left n (suc l) (q ∷ a) b h = ap (λ (x : ℕ). cond (eqb (length q) n) 1 0 + x) (of_take_left n l a b (omega arith))

of_take_right : (n l : ℕ) (a b : List (List ℕ)) → of_length n (take (length a + l) (a ++ b)) ≡ of_length n (take (length a) a) + of_length n (take l b)
unfolding of_length
of_take_right n l [] b = ap (λ (x : ℕ). of_length n (take x b)) (let e : 0 + l ≡ l = omega arith in e) ∙ (let e : of_length n (take l b) ≡ 0 + of_length n (take l b) = omega arith in e)
of_take_right n l (q ∷ a) b =
    ap (λ (x : ℕ). of_length n (take x (q ∷ (a ++ b)))) (let e : suc (length a) + l ≡ suc (length a + l) = omega arith in e)
    ∙ (let e = of_take_right n l a b in omega arith)

-- ---- the levels

abbrev lv : ℕ → ℕ → ℕ → ℕ → ℕ → ℕ
lv m r full rest i = get_or (levels m r full rest) i 0

lv_none : (m r i : ℕ) → lv m r 0 0 i ≡ 0
unfolding levels
lv_none m zero i = refl
lv_none m (suc r) zero = refl
lv_none m (suc r) (suc i) =
    ap₂ (λ (a b : ℕ). lv m r (m * 0 + a) b i) (zero-div (series m r)) (zero-mod (series m r))
    ∙ ap (λ (a : ℕ). lv m r a 0 i) (let z = mul-zero m in let e : m * 0 + 0 ≡ 0 = omega arith in e)
    ∙ lv_none m r i

-- whole ones add up
times : (u v w : ℕ) → u * v * w ≡ v * (u * w)
times u v w = ap (λ (n : ℕ). n * w) (mul_comm u v) ∙ mul_assoc v u w

-- below one whole one stand m whole ones
one_more : (m r i : ℕ) → lv m r (m + 0) 0 i ≡ m * lv m r 1 0 i + lv m r 0 0 i → lv m r (m * 1 + 0 / series m r) (0 % series m r) i ≡ m * lv m r 1 0 i
one_more m r i again =
    ap₂ (λ (a b : ℕ). lv m r (m * 1 + a) b i) (zero-div (series m r)) (zero-mod (series m r))
    ∙ ap (λ (n : ℕ). lv m r n 0 i) (let o = mul-one m in let e : m * 1 + 0 ≡ m + 0 = omega arith in e)
    ∙ again
    ∙ (let z = lv_none m r i in omega arith)

lv_more : (m r a full rest i : ℕ) → lv m r (a + full) rest i ≡ a * lv m r 1 0 i + lv m r full rest i
unfolding levels
lv_more m zero a full rest i = let z = mul-zero a in omega arith
lv_more m (suc r) a full rest zero = let z = mul-one a in omega arith
lv_more m (suc r) a full rest (suc i) =
    let x = (rest - 1) / series m r in
    let y = (rest - 1) % series m r in
    ap (λ (n : ℕ). lv m r n y i) (let d = mul-add m a full in let e : m * (a + full) + x ≡ m * a + (m * full + x) = omega arith in e)
    ∙ lv_more m r (m * a) (m * full + x) y i
    ∙ ap (λ (n : ℕ). n + lv m r (m * full + x) y i) (times m a (lv m r 1 0 i) ∙ ap (λ (n : ℕ). a * n) (sym (one_more m r i (lv_more m r m 0 0 i))))

-- a block that is visited whole is a whole one
lv_whole : (m r i : ℕ) → lv m (suc r) 0 (series m (suc r)) i ≡ lv m (suc r) 1 0 i
unfolding levels
lv_whole m r zero = let s = series_suc m r in omega arith
lv_whole m r (suc i) = by r
  where
    by : (r : ℕ) → lv m r (m * 0 + (series m (suc r) - 1) / series m r) ((series m (suc r) - 1) % series m r) i ≡ lv m r (m * 1 + 0 / series m r) (0 % series m r) i
    by zero = refl
    by (suc r) =
        let b = series m (suc r) in
        let p : 0 < b = let s = series_suc m r in omega arith in
        let less : series m (suc (suc r)) - 1 ≡ m * b = let s = series_suc m (suc r) in omega arith in
        ap₂ (λ (x y : ℕ). lv m (suc r) (m * 0 + x) y i) (ap (λ (n : ℕ). n / b) less ∙ mul-div_cancel m p) (ap (λ (n : ℕ). n % b) less ∙ mul-mod_left m b)
        ∙ ap (λ (n : ℕ). lv m (suc r) n 0 i) (let z = mul-zero m in let o = mul-one m in let e : m * 0 + m ≡ m * 1 + 0 = omega arith in e)
        ∙ sym (ap₂ (λ (x y : ℕ). lv m (suc r) (m * 1 + x) y i) (zero-div b) (zero-mod b))

-- ---- the first L of blocks

module _ (t : ℕ → Bool) (x : ℕ → List ℕ) (g : ℕ → List (List ℕ)) (k n : ℕ) (c : ℕ → ℕ) (none : c 0 ≡ 0) where
  abbrev all : ℕ → List (List ℕ)
  all N = upto (λ p. one (t p) (x p) (g p)) N

  blocks_at : ℕ → ℕ
  blocks_at l = l / suc k * c (suc k) + c (l % suc k)

  -- a whole number of blocks
  at_whole : (q : ℕ) → blocks_at (q * suc k) ≡ q * c (suc k)
  unfolding blocks_at
  at_whole q =
      ap₂ (λ (a b : ℕ). a * c (suc k) + c b) (mul-div_cancel q (zero-lt-suc k)) (mul-mod_left q (suc k))
      ∙ (let z = none in omega arith)

  -- and a part of one
  at_part : (q j : ℕ) → j < suc k → blocks_at (q * suc k + j) ≡ q * c (suc k) + c j
  unfolding blocks_at
  at_part q j h =
      let s = suc-mul q (suc k) in
      let d : (q * suc k + j) / suc k ≡ q = div-eq_of_lt-le (suc k) (omega arith) (subst (λ (a : ℕ). q * suc k + j < a * suc k) (let e : suc q ≡ q + 1 = omega arith in e) (omega arith)) in
      let m : (q * suc k + j) % suc k ≡ j =
      mod-eq-sub-div-mul (q * suc k + j) (suc k) ∙ ap (λ (a : ℕ). q * suc k + j - a * suc k) d ∙ (let e : q * suc k + j - q * suc k ≡ j = omega arith in e) in
      ap₂ (λ (a b : ℕ). a * c (suc k) + c b) d m

  -- up to the end of a block
  at_upto : (q j : ℕ) → j ≤ suc k → blocks_at (q * suc k + j) ≡ q * c (suc k) + c j
  at_upto q j h = ⊎_elim last (λ l. at_part q j l) (eq-or-lt_of_le h)
    where
      last : j ≡ suc k → blocks_at (q * suc k + j) ≡ q * c (suc k) + c j
      last e =
          ap blocks_at (let s = suc-mul q (suc k) in let a : q * suc k + j ≡ suc q * suc k = omega arith in a)
          ∙ at_whole (suc q) ∙ suc-mul q (c (suc k)) ∙ ap (λ (a : ℕ). q * c (suc k) + c a) (sym e)

  abbrev Sizes : ℕ → Type 0
  Sizes N = (p : ℕ) → p < N → length (g p) ≡ k

  abbrev Counted : ℕ → Type 0
  Counted N = (p : ℕ) → p < N → (j : ℕ) → j ≤ suc k → of_length n (take j (x p ∷ g p)) ≡ c j

  of_blocks : (N l : ℕ) → Sizes N → Counted N → l ≤ count t N * suc k → of_length n (take l (all N)) ≡ blocks_at l
  unfolding count upto of_length
  of_blocks zero l sizes counted h =
      let e : l ≡ 0 = let z = zero-mul (suc k) in omega arith in
      subst (λ (a : ℕ). of_length n (take a []) ≡ blocks_at a) (sym e) (sym (ap blocks_at (sym (zero-mul (suc k))) ∙ at_whole 0 ∙ zero-mul (c (suc k))))
  of_blocks (suc N) l sizes counted h = by (λ a b. of_blocks N a (λ p q. sizes p (omega arith)) (λ p q. counted p (omega arith)) b) (dec_le l (count t N * suc k))
    where
      long : length (all N) ≡ count t N * suc k
      long = upto_length t x g k N (λ p q. sizes p (omega arith))

      late :
          (b : Bool) → of_length n (take (count t N * suc k) (all N)) ≡ blocks_at (count t N * suc k) → l ≤ more b (count t N) * suc k →
          count t N * suc k < l → of_length n (take l (all N ++ one b (x N) (g N))) ≡ blocks_at l
      late false again h' m = absurd (let no : ⊥ = omega arith in no)
      late true again h' m =
          let q = count t N in
          let j = l - q * suc k in
          let s = suc-mul q (suc k) in
          let few : j ≤ suc k = omega arith in
          let e : l ≡ q * suc k + j = omega arith in
          let e' : l ≡ length (all N) + j = let w = long in omega arith in
          ap (λ (a : ℕ). of_length n (take a (all N ++ x N ∷ g N))) e'
          ∙ of_take_right n j (all N) (x N ∷ g N)
          ∙ ap₂ (λ (a b : ℕ). a + b) (ap (λ (a : ℕ). of_length n (take a (all N))) long ∙ again ∙ at_whole q) (counted N (omega arith) j few)
          ∙ sym (at_upto q j few) ∙ ap blocks_at (sym e)

      by :
          ((a : ℕ) → a ≤ count t N * suc k → of_length n (take a (all N)) ≡ blocks_at a) → Dec (l ≤ count t N * suc k) →
          of_length n (take l (all N ++ one (t N) (x N) (g N))) ≡ blocks_at l
      by again (yes a) = of_take_left n l (all N) (one (t N) (x N) (g N)) (subst (λ (b : ℕ). l ≤ b) (sym long) a) ∙ again l a
      by again (no a) = late (t N) (again (count t N * suc k) (omega arith)) h (omega arith)

-- ---- the sequences that go on from s

of_take_le : (n l : ℕ) (a : List (List ℕ)) → of_length n (take l a) ≤ of_length n a
unfolding of_length
of_take_le n zero a = omega arith
of_take_le n (suc l) [] = omega arith
of_take_le n (suc l) (q ∷ a) = let e = of_take_le n l a in omega arith

upto_none :
    (n : ℕ) (t : ℕ → Bool) (x : ℕ → List ℕ) (g : ℕ → List (List ℕ)) (N : ℕ) → ((p : ℕ) → of_length n (x p ∷ g p) ≡ 0) →
    of_length n (upto (λ p. one (t p) (x p) (g p)) N) ≡ 0
unfolding upto of_length
upto_none n t x g zero h = refl
upto_none n t x g (suc N) h = of_append n (upto (λ p. one (t p) (x p) (g p)) N) (one (t N) (x N) (g N)) ∙ last (t N) (upto_none n t x g N h)
  where
    last : (b : Bool) → of_length n (upto (λ p. one (t p) (x p) (g p)) N) ≡ 0 → of_length n (upto (λ p. one (t p) (x p) (g p)) N) + of_length n (one b (x N) (g N)) ≡ 0
    last true e = let z = h N in omega arith
    last false e = omega arith

snoc_length : (s : List ℕ) (q : ℕ) → length (s ++ q ∷ []) ≡ suc (length s)
snoc_length s q = length-append s (q ∷ []) ∙ (let e : length s + 1 ≡ suc (length s) = omega arith in e)

-- none is as short as what it goes on from
below_none : (on : List ℕ) (d : ℕ) (s : List ℕ) (n : ℕ) → n ≤ length s → of_length n (below on d s) ≡ 0
unfolding below of_length
below_none on zero s n h = refl
below_none on (suc d) s n h = upto_none n (may on s) (λ p. s ++ p ∷ []) (λ p. below on d (s ++ p ∷ [])) (length on) (λ p. each p (λ e. below_none on d (s ++ p ∷ []) n e))
  where
    each : (p : ℕ) → (n ≤ length (s ++ p ∷ []) → of_length n (below on d (s ++ p ∷ [])) ≡ 0) → cond (eqb (length (s ++ p ∷ [])) n) 1 0 + of_length n (below on d (s ++ p ∷ [])) ≡ 0
    each p again =
        let e = snoc_length s p in
        let z = again (omega arith) in
        rw (ne_eqb (length (s ++ p ∷ [])) n (λ f. omega arith)) (let a : 0 + of_length n (below on d (s ++ p ∷ [])) ≡ 0 = omega arith in a)

longer : (on : List ℕ) (d : ℕ) (s : List ℕ) (n l : ℕ) → n ≤ length s → of_length n (take l (below on d s)) ≡ 0
longer on d s n l h = let a = of_take_le n l (below on d s) in let b = below_none on d s n h in omega arith

-- of the first l that go on from s by up to r planes, those with suc i planes more
unfoldable pub Levelled : List ℕ → ℕ → List ℕ → Type 0
Levelled on r s =
    (l i : ℕ) → l ≤ length (below on r s) →
    of_length (length s + suc i) (take l (below on r s)) ≡ lv (length on - 1) r (l / series (length on - 1) r) (l % series (length on - 1) r) i

-- in a block, by how much of it is visited
in_block :
    (on : List ℕ) (r : ℕ) (s : List ℕ) (q i j : ℕ) → Levelled on r (s ++ q ∷ []) → j ≤ suc (length (below on r (s ++ q ∷ []))) →
    of_length (length s + suc i) (take j ((s ++ q ∷ []) ∷ below on r (s ++ q ∷ []))) ≡ lv (length on - 1) (suc r) 0 j i
unfolding Levelled levels of_length
in_block on r s q i zero again h = sym (lv_none (length on - 1) (suc r) i)
in_block on r s q zero (suc j) again h =
    let e = snoc_length s q in
    let z = longer on r (s ++ q ∷ []) (length s + 1) j (omega arith) in
    rw (eq-eqb (length (s ++ q ∷ [])) (length s + 1) (omega arith)) (let a : 1 + of_length (length s + 1) (take j (below on r (s ++ q ∷ []))) ≡ 0 + min 1 (suc j) = omega arith in a)
in_block on r s q (suc i) (suc j) again h =
    let m = length on - 1 in
    let e = snoc_length s q in
    let n : length (s ++ q ∷ []) + suc i ≡ length s + suc (suc i) = omega arith in
    ap (λ (b : Bool). cond b 1 0 + of_length (length s + suc (suc i)) (take j (below on r (s ++ q ∷ [])))) (ne_eqb (length (s ++ q ∷ [])) (length s + suc (suc i)) (λ f. omega arith))
    ∙ (let a : 0 + of_length (length s + suc (suc i)) (take j (below on r (s ++ q ∷ []))) ≡ of_length (length s + suc (suc i)) (take j (below on r (s ++ q ∷ []))) = omega arith in a)
    ∙ ap (λ (a : ℕ). of_length a (take j (below on r (s ++ q ∷ [])))) (sym n)
    ∙ again j i (omega arith)
    ∙ ap₂ (λ (a b : ℕ). lv m r a b i)
    (ap (λ (a : ℕ). a / series m r) (let f : j ≡ suc j - 1 = omega arith in f)
    ∙ (let z = mul-zero m in let f : (suc j - 1) / series m r ≡ m * 0 + (suc j - 1) / series m r = omega arith in f))
    (ap (λ (a : ℕ). a % series m r) (let f : j ≡ suc j - 1 = omega arith in f))

level_step :
    (on : List ℕ) (r : ℕ) (s : List ℕ) →
    ((q : ℕ) → q < length on → length (below on r (s ++ q ∷ [])) ≡ (length on - 1) * series (length on - 1) r) →
    ((q : ℕ) → q < length on → Levelled on r (s ++ q ∷ [])) → Levelled on (suc r) s
unfolding Levelled below blocks_at
level_step on r s sizes again l i h =
    of_blocks (may on s) (λ q. s ++ q ∷ []) (λ q. below on r (s ++ q ∷ [])) k (length s + suc i) c (lv_none m (suc r) i) (length on) l sizes
    (λ p a j b. in_block on r s p i j (again p a) (let e = sizes p a in omega arith))
    (subst (λ (n : ℕ). l ≤ n) (upto_length (may on s) (λ q. s ++ q ∷ []) (λ q. below on r (s ++ q ∷ [])) k (length on) sizes) h)
    ∙ ap (λ (b : ℕ). l / b * c b + c (l % b)) (sym (series_suc m r))
    ∙ ap (λ (n : ℕ). l / series m (suc r) * n + c (l % series m (suc r))) (lv_whole m r i)
    ∙ sym (lv_more m (suc r) (l / series m (suc r)) 0 (l % series m (suc r)) i)
    ∙ ap (λ (n : ℕ). lv m (suc r) n (l % series m (suc r)) i) (let e : l / series m (suc r) + 0 ≡ l / series m (suc r) = omega arith in e)
  where
    m : ℕ
    m = length on - 1

    k : ℕ
    k = m * series m r

    c : ℕ → ℕ
    c j = lv m (suc r) 0 j i

levelled_after : (on : List ℕ) (r : ℕ) (s : List ℕ) (p : ℕ) → p < length on → Levelled on r (s ++ p ∷ [])
unfolding Levelled below levels of_length
levelled_after on zero s p h zero i l = refl
levelled_after on zero s p h (suc j) i l = refl
levelled_after on (suc r) s p h l i g = level_step on r (s ++ p ∷ []) (λ q a. below_length on r (s ++ p ∷ []) q a) (λ q a. levelled_after on r (s ++ p ∷ []) q a) l i g

levelled : (on : List ℕ) (r : ℕ) → Levelled on r []
unfolding Levelled below levels of_length
levelled on zero zero i l = refl
levelled on zero (suc j) i l = refl
levelled on (suc r) l i g = level_step on r [] (λ q a. below_length on r [] q a) (λ q a. levelled_after on r [] q a) l i g

take_over : (l : ℕ) (a : List (List ℕ)) → length a ≤ l → take l a ≡ take (length a) a
take_over zero [] h = refl
take_over zero (q ∷ a) h = absurd (let no : ⊥ = omega arith in no)
take_over (suc l) [] h = refl
take_over (suc l) (q ∷ a) h = ap (λ (b : List (List ℕ)). q ∷ b) (take_over l a (omega arith))

of_take_min : (n l : ℕ) (a : List (List ℕ)) → of_length n (take l a) ≡ of_length n (take (min l (length a)) a)
of_take_min n l a = by (dec_le l (length a))
  where
    by : Dec (l ≤ length a) → of_length n (take l a) ≡ of_length n (take (min l (length a)) a)
    by (yes h) = ap (λ (k : ℕ). of_length n (take k a)) (let e : l ≡ min l (length a) = omega arith in e)
    by (no h) = ap (of_length n) (take_over l a (omega arith)) ∙ ap (λ (k : ℕ). of_length n (take k a)) (let e : length a ≡ min l (length a) = omega arith in e)

-- over any cap, so that 250,000 stays a name
counts_within :
    (cap : ℕ) (on : List ℕ) (order i : ℕ) →
    of_length (suc i) (take cap (allowed on order))
    ≡ lv (length on - 1) order (min cap (firsts on * series (length on - 1) order) / series (length on - 1) order)
    (min cap (firsts on * series (length on - 1) order) % series (length on - 1) order) i
unfolding Levelled
counts_within cap on order i =
    let e = allowed_length on order in
    of_take_min (suc i) cap (allowed on order)
    ∙ ap (λ (n : ℕ). of_length n (take (min cap (length (allowed on order))) (allowed on order))) (let z : suc i ≡ 0 + suc i = omega arith in z)
    ∙ levelled on order (min cap (length (allowed on order))) i (omega arith)
    ∙ ap (λ (n : ℕ). lv (length on - 1) order (min cap n / series (length on - 1) order) (min cap n % series (length on - 1) order) i) e

-- THE COUNTS: "each equals the number of visited sequences of that length"
pub counts_are : (on : List ℕ) (order i : ℕ) → of_length (suc i) (visited on order) ≡ get_or (counts_by_order (length on) (firsts on) order) i 0
unfolding levels_of
counts_are on order i = counts_within most on order i
