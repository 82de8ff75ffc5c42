-- What `first_faces` rests on: the first face of a packed sorted triple of corner numbers is the first with its three keys in any order
-- (`new_is`), and what the loop of `face_keys` holds (`Keys`).
use mathlib.Core.Path.{◌≡◌, refl, sym, ap, ◌∙◌}
use mathlib.Core.Bool.{not}
use mathlib.Core.List.{List}
use Prim.Native.Nat.{ℕ, ◌+◌, ◌*◌, ◌<◌, ◌≤◌}
use native.Mathlib.Nat.{not-suc-le-zero}
use native.Mathlib.Omega.{arith}
use lib.Dec.{eqb}
use lib.ListN.{length, get_or, set, length-set}
use lib.Seq.{get_or-set_same, get_or-set_other}
use Rattle.order.specs.Sort.{Below}
use Rattle.float.proofs.Numbers.{by_order}
use Rattle.order.proofs.Stable.{by-eq}
use Rattle.order.specs.Runs.{first_at}
use Rattle.planes_faces.specs.Triples.{any_order, lowest, middle, highest, packed3}
use Rattle.planes_faces.specs.Numbers.{is_new_at, key_at}
use Rattle.order.proofs.Runs.{first_is, first_same, first_le, any_under}
use Rattle.planes_faces.proofs.Triples.{any_order_packed}

-- numbers in place of keys
any_order_cong : (f k : ℕ → ℕ) → ((p q : ℕ) → eqb (f p) (f q) ≡ eqb (k p) (k q)) → (a b c d e g : ℕ)
    → any_order eqb (f a) (f b) (f c) (f d) (f e) (f g) ≡ any_order eqb (k a) (k b) (k c) (k d) (k e) (k g)
unfolding any_order
any_order_cong f k h a b c d e g = rw (h a d, h b e, h c g, h a e, h b g, h c d, h a g, h b d, h c e)

module _ (n : ℕ) (k kf : ℕ → ℕ) (id : List ℕ) (small : 3 * n ≤ 4294967296)
    (named : (c : ℕ) → c < 3 * n → get_or id c 0 ≡ first_at k c)
    (packed : (i : ℕ) → i < n → kf i ≡ packed3 (get_or id i 0) (get_or id (n + i) 0) (get_or id (2 * n + i) 0)) where
  low : (c : ℕ) → c < 3 * n → first_at k c < 4294967296
  low c h = let l = first_le k c in omega arith

  key_of : (i : ℕ) → i < n → kf i ≡ packed3 (first_at k i) (first_at k (n + i)) (first_at k (2 * n + i))
  key_of i h = packed i h ∙ rw (named i (omega arith), named (n + i) (omega arith), named (2 * n + i) (omega arith))

  same_keys : (j i : ℕ) → j < n → i < n → eqb (kf j) (kf i) ≡ any_order eqb (k j) (k (n + j)) (k (2 * n + j)) (k i) (k (n + i)) (k (2 * n + i))
  same_keys j i hj hi =
      rw (key_of j hj, key_of i hi)
      (sym (any_order_packed (first_at k j) (first_at k (n + j)) (first_at k (2 * n + j)) (first_at k i) (first_at k (n + i)) (first_at k (2 * n + i))
      (low j (omega arith)) (low (n + j) (omega arith)) (low (2 * n + j) (omega arith)) (low i (omega arith)) (low (n + i) (omega arith)) (low (2 * n + i) (omega arith)))
      ∙ any_order_cong (first_at k) k (first_same k) j (n + j) (2 * n + j) i (n + i) (2 * n + i))

  pub new_is : (i r : ℕ) → i < n → r ≡ first_at kf i → eqb r i ≡ is_new_at k n i
  unfolding is_new_at
  new_is i r h e =
      ap (λ (v : ℕ). eqb v i) e ∙ first_is kf i
      ∙ ap not (any_under (λ j. eqb (kf j) (kf i)) (λ j. any_order eqb (k j) (k (n + j)) (k (2 * n + j)) (k i) (k (n + i)) (k (2 * n + i))) i
      (λ j l. same_keys j i (omega arith) h))

-- ---- the loop of `face_keys`

-- up to i the keys are there
pub record Keys (id : List ℕ) (n i : ℕ) (hi₀ lo₀ hi lo : List ℕ) : Type 0 where
  pub len_hi : length hi ≡ length hi₀
  pub len_lo : length lo ≡ length lo₀
  pub high : (j : ℕ) → j < i → get_or hi j 0 ≡ lowest (get_or id j 0) (get_or id (n + j) 0) (get_or id (2 * n + j) 0) * 4294967296 + middle (get_or id j 0) (get_or id (n + j) 0) (get_or id (2 * n + j) 0)
  pub low : (j : ℕ) → j < i → get_or lo j 0 ≡ highest (get_or id j 0) (get_or id (n + j) 0) (get_or id (2 * n + j) 0)
  pub fits : (j : ℕ) → j < i → get_or lo j 0 < 4294967296

pub keys_none : (id : List ℕ) (n : ℕ) (hi lo : List ℕ) → Keys id n 0 hi lo hi lo
keys_none id n hi lo =
    record { len_hi = refl; len_lo = refl; high = λ j h. absurd (not-suc-le-zero h); low = λ j h. absurd (not-suc-le-zero h); fits = λ j h. absurd (not-suc-le-zero h) }

-- a store at i, for what holds below i
set_more : (P : ℕ → ℕ → Type 0) (l : List ℕ) (i v : ℕ) → i < length l → ((j : ℕ) → j < i → P j (get_or l j 0)) → P i v → (j : ℕ) → j < i + 1 → P j (get_or (set l i v) j 0)
set_more P l i v h f p j g =
    by-eq j i (λ e. rw (e, get_or-set_same l i v 0 h) p)
    (λ d. rw (get_or-set_other l i j v 0 d) (f j (below j i d g)))
  where
    below : (j i : ℕ) → (j ≡ i → ⊥) → j < i + 1 → j < i
    below j i d g = by_order i j (λ h. absurd (d (omega arith))) (λ h. h)

pub keys_more : (id : List ℕ) (n i : ℕ) (hi₀ lo₀ hi lo : List ℕ) (x y : ℕ) → Keys id n i hi₀ lo₀ hi lo → i < length hi₀ → i < length lo₀
    → x ≡ lowest (get_or id i 0) (get_or id (n + i) 0) (get_or id (2 * n + i) 0) * 4294967296 + middle (get_or id i 0) (get_or id (n + i) 0) (get_or id (2 * n + i) 0)
    → (y ≡ highest (get_or id i 0) (get_or id (n + i) 0) (get_or id (2 * n + i) 0)) × (y < 4294967296)
    → Keys id n (i + 1) hi₀ lo₀ (set hi i x) (set lo i y)
keys_more id n i hi₀ lo₀ hi lo x y k h g ex ey =
    let a = k.len_hi in let b = k.len_lo in
    record {
      len_hi = length-set hi i x ∙ a;
      len_lo = length-set lo i y ∙ b;
      high = set_more (λ j v. v ≡ lowest (get_or id j 0) (get_or id (n + j) 0) (get_or id (2 * n + j) 0) * 4294967296 + middle (get_or id j 0) (get_or id (n + j) 0) (get_or id (2 * n + j) 0)) hi i x (omega arith) k.high ex;
      low = set_more (λ j v. v ≡ highest (get_or id j 0) (get_or id (n + j) 0) (get_or id (2 * n + j) 0)) lo i y (omega arith) k.low ey.0;
      fits = set_more (λ j v. v < 4294967296) lo i y (omega arith) k.fits ey.1;
    }

pub keys_low : (id : List ℕ) (n : ℕ) (hi₀ lo₀ hi lo : List ℕ) → Keys id n n hi₀ lo₀ hi lo → length lo₀ ≡ n → Below 4294967296 lo
unfolding Below
keys_low id n hi₀ lo₀ hi lo k e j h = let a = k.len_lo in k.fits j (omega arith)

pub keys_all : (id : List ℕ) (n : ℕ) (hi₀ lo₀ hi lo : List ℕ) → Keys id n n hi₀ lo₀ hi lo
    → (i : ℕ) → i < n → key_at hi lo i ≡ packed3 (get_or id i 0) (get_or id (n + i) 0) (get_or id (2 * n + i) 0)
keys_all id n hi₀ lo₀ hi lo k i h = rw (k.high i h, k.low i h)
