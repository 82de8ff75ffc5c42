-- What `unrank` finds by division is what stands at that place of the list.
use Prim.Native.Nat.{ℕ, zero, suc, ◌+◌, ◌-◌, ◌*◌, ◌/◌, ◌%◌, ◌≤◌, ◌<◌}
use mathlib.Core.Path.{◌≡◌, refl, sym, ap, ap₂, ◌∙◌, subst}
use mathlib.Core.Bool.{Bool, true, false, cond}
use mathlib.Core.List.{List, [], ◌∷◌, ◌++◌}
use native.Mathlib.Nat.{zero-mul, div-lt_iff_lt-mul, zero-lt-suc, mod-lt, div-eq_of_lt-le, mod-eq-sub-div-mul}
use native.Mathlib.Decide.{dec_lt}
use native.Mathlib.Omega.{arith}
use lib.ListN.{length, get_or, get_or-append}
use lib.Seq.{get_or-append-add, get_or-take}
use lib.Dec.{ltb}
use borrow.Author.Tests.{lt-ltb, le-ltb}
use Rattle.sequences.specs.Allowed.{upto, may, below, allowed, most}
use Rattle.sequences.specs.Count.{more, count, series, firsts, images}
use Rattle.sequences.proofs.Counting.{one, upto_length, below_length, allowed_length, series_suc}
use Rattle.numbering.specs.Unrank.{nth, unrank}
use Rattle.numbering.specs.Walls.{walls_of}

-- place i of blocks of suc k, one for each p that passes
abbrev block_at : (ℕ → List ℕ) → (ℕ → List (List ℕ)) → ℕ → ℕ → List ℕ
block_at x g p j = get_or (x p ∷ g p) j []

last_div : (c k i : ℕ) → c * suc k ≤ i → i < suc c * suc k → i / suc k ≡ c
last_div c k i low high =
    div-eq_of_lt-le (suc k) low (subst (λ (m : ℕ). i < m * suc k) (let e : suc c ≡ c + 1 = omega arith in e) high)

upto_at :
    (t : ℕ → Bool) (x : ℕ → List ℕ) (g : ℕ → List (List ℕ)) (k n i : ℕ) → ((p : ℕ) → p < n → length (g p) ≡ k) → i < count t n * suc k →
    get_or (upto (λ p. one (t p) (x p) (g p)) n) i [] ≡ block_at x g (nth t n (i / suc k)) (i % suc k)
unfolding upto count nth
upto_at t x g k zero i h l = let z = zero-mul (suc k) in absurd (let no : ⊥ = omega arith in no)
upto_at t x g k (suc n) i h l = by (λ c. upto_at t x g k n i (λ p q. h p (omega arith)) c) (dec_lt i (count t n * suc k))
  where
    whole : length (upto (λ p. one (t p) (x p) (g p)) n) ≡ count t n * suc k
    whole = upto_length t x g k n (λ p q. h p (omega arith))

    early :
        get_or (upto (λ p. one (t p) (x p) (g p)) n) i [] ≡ block_at x g (nth t n (i / suc k)) (i % suc k) → i < count t n * suc k →
        get_or (upto (λ p. one (t p) (x p) (g p)) n ++ one (t n) (x n) (g n)) i [] ≡ block_at x g
        (cond (ltb (i / suc k) (count t n)) (nth t n (i / suc k)) n) (i % suc k)
    early again c =
        get_or-append (upto (λ p. one (t p) (x p) (g p)) n) (one (t n) (x n) (g n)) [] i (subst (λ (m : ℕ). i < m) (sym whole) c)
        ∙ again
        ∙ ap (λ (b : Bool). block_at x g (cond b (nth t n (i / suc k)) n) (i % suc k))
        (sym (lt-ltb (i / suc k) (count t n) ((div-lt_iff_lt-mul (zero-lt-suc k)).1 c)))

    late :
        (b : Bool) → i < more b (count t n) * suc k → count t n * suc k ≤ i →
        get_or (upto (λ p. one (t p) (x p) (g p)) n ++ one b (x n) (g n)) i [] ≡ block_at x g
        (cond (ltb (i / suc k) (count t n)) (nth t n (i / suc k)) n) (i % suc k)
    late false c d = absurd (let no : ⊥ = omega arith in no)
    late true c d =
        let q : i / suc k ≡ count t n = last_div (count t n) k i d c in
        let r : i % suc k ≡ i - count t n * suc k = mod-eq-sub-div-mul i (suc k) ∙ ap (λ (m : ℕ). i - m * suc k) q in
        let e : i ≡ length (upto (λ p. one (t p) (x p) (g p)) n) + (i - count t n * suc k) = let w = whole in omega arith in
        ap (λ (m : ℕ). get_or (upto (λ p. one (t p) (x p) (g p)) n ++ x n ∷ g n) m []) e
        ∙ get_or-append-add (upto (λ p. one (t p) (x p) (g p)) n) (x n ∷ g n) (i - count t n * suc k) []
        ∙ ap₂ (λ (p j : ℕ). block_at x g p j)
        (ap (λ (b : Bool). cond b (nth t n (i / suc k)) n) (sym (le-ltb (i / suc k) (count t n) (omega arith)))) (sym r)

    by :
        (i < count t n * suc k → get_or (upto (λ p. one (t p) (x p) (g p)) n) i [] ≡ block_at x g (nth t n (i / suc k)) (i % suc k)) →
        Dec (i < count t n * suc k) →
        get_or (upto (λ p. one (t p) (x p) (g p)) n ++ one (t n) (x n) (g n)) i [] ≡ block_at x g
        (cond (ltb (i / suc k) (count t n)) (nth t n (i / suc k)) n) (i % suc k)
    by again (yes c) = early (again c) c
    by again (no c) = late (t n) l (omega arith)

-- ---- the sequences that go on from s

-- the block of a plane at level suc d, and what it is made of
abbrev m_of : List ℕ → ℕ
m_of on = length on - 1

-- in s and a plane at the end, any d: unrank finds what stands there
unfoldable pub Finds : List ℕ → ℕ → List ℕ → Type 0
Finds on d s = (i : ℕ) → i < length (below on d s) → unrank on d s i ≡ get_or (below on d s) i []

pub nth_below : (t : ℕ → Bool) (n q : ℕ) → q < count t n → nth t n q < n
unfolding nth count
nth_below t zero q h = absurd (let no : ⊥ = omega arith in no)
nth_below t (suc n) q h = by (dec_lt q (count t n)) (λ c. nth_below t n q c)
  where
    by :
        Dec (q < count t n) → (q < count t n → nth t n q < n) → cond (ltb q (count t n)) (nth t n q) n < suc n
    by (yes c) again = rw (lt-ltb q (count t n) c) (let a = again c in omega arith)
    by (no c) again = rw (le-ltb q (count t n) (omega arith)) (let a : n < suc n = omega arith in a)

-- from place r of a block
within :
    (on : List ℕ) (d : ℕ) (t : List ℕ) (k r : ℕ) → length (below on d t) ≡ k → Finds on d t → r < suc k →
    elim r [ zero ↦ t | suc j ↦ unrank on d t j ] ≡ get_or (t ∷ below on d t) r []
unfolding Finds
within on d t k zero e again h = refl
within on d t k (suc j) e again h = again j (omega arith)

step :
    (on : List ℕ) (d : ℕ) (s : List ℕ) →
    ((q : ℕ) → q < length on → length (below on d (s ++ q ∷ [])) ≡ m_of on * series (m_of on) d) →
    ((q : ℕ) → q < length on → Finds on d (s ++ q ∷ [])) → Finds on (suc d) s
unfolding Finds below unrank
step on d s sizes again i l =
    ap
    (λ (b : ℕ).
    elim (i % b) as (λ x. List ℕ) [
      | zero ↦ s ++ nth (may on s) (length on) (i / b) ∷ []
      | suc j ↦ unrank on d (s ++ nth (may on s) (length on) (i / b) ∷ []) j
    ])
    (series_suc (m_of on) d)
    ∙ within on d (s ++ p ∷ []) k (i % suc k) (sizes p below_n) (again p below_n) (mod-lt i (zero-lt-suc k))
    ∙ sym (upto_at (may on s) (λ q. s ++ q ∷ []) (λ q. below on d (s ++ q ∷ [])) k (length on) i sizes place)
  where
    k : ℕ
    k = m_of on * series (m_of on) d

    place : i < count (may on s) (length on) * suc k
    place = subst (λ (n : ℕ). i < n) (upto_length (may on s) (λ q. s ++ q ∷ []) (λ q. below on d (s ++ q ∷ [])) k (length on) sizes) l

    p : ℕ
    p = nth (may on s) (length on) (i / suc k)

    below_n : p < length on
    below_n = nth_below (may on s) (length on) (i / suc k) ((div-lt_iff_lt-mul (zero-lt-suc k)).1 place)

pub finds_after : (on : List ℕ) (d : ℕ) (s : List ℕ) (p : ℕ) → p < length on → Finds on d (s ++ p ∷ [])
unfolding Finds below
finds_after on zero s p h i l = absurd (let no : ⊥ = omega arith in no)
finds_after on (suc d) s p h i l = step on d (s ++ p ∷ []) (λ q g. below_length on d (s ++ p ∷ []) q g)
    (λ q g. finds_after on d (s ++ p ∷ []) q g) i l

-- of all allowed sequences
pub finds : (on : List ℕ) (d : ℕ) → Finds on d []
unfolding Finds below
finds on zero i l = absurd (let no : ⊥ = omega arith in no)
finds on (suc d) i l = step on d [] (λ q g. below_length on d [] q g) (λ q g. finds_after on d [] q g) i l

-- "return the plane sequence without walking the earlier ones": of every image that a query can visit
pub walls_found : (on : List ℕ) (order n : ℕ) → 1 ≤ n → n ≤ images (length on) (firsts on) order → unrank on order [] (n - 1) ≡ walls_of on order n
unfolding Finds walls_of
walls_found on order n low high =
    let e = allowed_length on order in
    finds on order (n - 1) (omega arith) ∙ sym (get_or-take most (allowed on order) (n - 1) [] (omega arith))
