-- Laws of the tests, of the sizes of blocks and of the planes that may follow, which the functions' proofs cite.
use Prim.Native.Nat.{ℕ, zero, suc, ◌+◌, ◌-◌, ◌*◌, ◌/◌, ◌%◌, ◌≤◌, ◌<◌, min}
use mathlib.Core.Path.{◌≡◌, refl, sym, ap, ◌∙◌, subst, fun_ext}
use mathlib.Core.Bool.{Bool, true, false, cond, not, ◌&&◌}
use mathlib.Core.List.{List, []}
use native.Mathlib.Nat.{pos_of_ne-zero, suc-mul, zero-mul, mul-le-mul, div-eq_of_lt, mod-eq_of_lt}
use native.Mathlib.Numerals.{add-one}
use native.Mathlib.Decide.{dec_lt, dec_le}
use native.Mathlib.Omega.{arith}
use lib.ListN.{length, get_or, take, drop}
use lib.Seq.{drop-cons, drop-length}
use lib.Dec.{leb, ltb, eqb}
use borrow.Author.Tests.{lt-ltb, le-ltb, ne_eqb}
use Rattle.sequences.specs.Allowed.{may, most, most_order}
use Rattle.sequences.specs.Count.{more, count, series}
use Rattle.sequences.proofs.Counting.{series_suc, count_other, count_rest}
use Rattle.sequences.proofs.Laws.{may_later}
use Rattle.numbering.specs.Walls.{flags}
use Rattle.numbering.specs.Unrank.{nth}
use Rattle.numbering.specs.Contract.{cap, block_of, Followed}

-- ---- the bytes

pub flags_at : (on : List ℕ) (i : ℕ) → i < length on → flags (drop i on) ≡ (leb (get_or on i 0) 1 && flags (drop (i + 1) on))
unfolding flags
flags_at on i h = ap flags (drop-cons on i 0 h) ∙ ap (λ (k : ℕ). leb (get_or on i 0) 1 && flags (drop k on)) (sym (add-one i))

pub flags_all : (on : List ℕ) (i : ℕ) → length on ≤ i → i ≤ length on → flags (drop i on) ≡ flags on → true ≡ flags on
unfolding flags
flags_all on i h g e =
    sym (ap flags (ap (λ (k : ℕ). drop k on) (let f : i ≡ length on = omega arith in f) ∙ drop-length on)) ∙ e

-- ---- how many pass a test

pub count_le : (t : ℕ → Bool) (n : ℕ) → count t n ≤ n
unfolding count
count_le t zero = omega arith
count_le t (suc n) = by (t n) (count_le t n)
  where
    by : (b : Bool) → count t n ≤ n → more b (count t n) ≤ suc n
    by true h = omega arith
    by false h = omega arith

pub firsts_more : (on : List ℕ) (p : ℕ) → count (may on []) (p + 1) ≡ count (may on []) p + more (eqb (get_or on p 0) 0) 0
unfolding count may
firsts_more on p = ap (count (may on [])) (add-one p) ∙ by (eqb (get_or on p 0) 0)
  where
    by : (b : Bool) → more b (count (may on []) p) ≡ count (may on []) p + more b 0
    by true = omega arith
    by false = omega arith

count_grows : (t : ℕ → Bool) (p n : ℕ) → p < n → t p ≡ true → count t p < count t n
unfolding count
count_grows t p zero h y = absurd (let no : ⊥ = omega arith in no)
count_grows t p (suc n) h y = by (dec_lt p n) (λ l. count_grows t p n l y)
  where
    rest : (b : Bool) → count t p < count t n → count t p < more b (count t n)
    rest true l = omega arith
    rest false l = omega arith

    by : Dec (p < n) → (p < n → count t p < count t n) → count t p < more (t n) (count t n)
    by (yes l) again = rest (t n) (again l)
    by (no l) again =
        let e : p ≡ n = omega arith in
        subst (λ (k : ℕ). count t p < more (t k) (count t k)) e
        (subst (λ (b : Bool). count t p < more b (count t p)) (sym y) (let g : count t p < suc (count t p) = omega arith in g))

-- the one that passes and has q before it
pub nth_is : (t : ℕ → Bool) (n p q : ℕ) → p < n → t p ≡ true → count t p ≡ q → nth t n q ≡ p
unfolding nth
nth_is t zero p q h y e = absurd (let no : ⊥ = omega arith in no)
nth_is t (suc n) p q h y e = by (dec_lt p n) (λ l. nth_is t n p q l y e)
  where
    by : Dec (p < n) → (p < n → nth t n q ≡ p) → cond (ltb q (count t n)) (nth t n q) n ≡ p
    by (yes l) again =
        let g = count_grows t p n l y in
        ap (λ (b : Bool). cond b (nth t n q) n) (lt-ltb q (count t n) (omega arith)) ∙ again l
    by (no l) again =
        let k : p ≡ n = omega arith in
        let g : count t n ≡ q = ap (count t) (sym k) ∙ e in
        ap (λ (b : Bool). cond b (nth t n q) n) (le-ltb q (count t n) (omega arith)) ∙ sym k

-- the search for the first plane: `left` more are to be passed, and p is one
pub first_is :
    (on : List ℕ) (p q left c : ℕ) → p < length on → left + count (may on []) p ≡ q → c ≡ more (eqb (get_or on p 0) 0) 0 → left < c →
    p ≡ nth (may on []) (length on) q
unfolding may
first_is on p q left c h e f g = by (eqb (get_or on p 0) 0) refl
  where
    by : (b : Bool) → eqb (get_or on p 0) 0 ≡ b → p ≡ nth (may on []) (length on) q
    by true k =
        let z : c ≡ 1 = f ∙ ap (λ (b : Bool). more b 0) k in
        sym (nth_is (may on []) (length on) p q h k (omega arith))
    by false k =
        let z : c ≡ 0 = f ∙ ap (λ (b : Bool). more b 0) k in
        absurd (let no : ⊥ = omega arith in no)

-- after the first k + 1 planes, the last of which is l: plane q where q < l, else the one behind it
module _ (on planes : List ℕ) (k q : ℕ) (long : k < length planes) (less : q < count (may on (take (suc k) planes)) (length on)) where
  same : may on (take (suc k) planes) ≡ (λ p. not (eqb (get_or planes k 0) p))
  same = fun_ext (λ p. may_later on planes k p long)

  less' : q < count (λ p. not (eqb (get_or planes k 0) p)) (length on)
  less' = subst (λ (t : ℕ → Bool). q < count t (length on)) same less

  plane_low : q < get_or planes k 0 → nth (may on (take (suc k) planes)) (length on) q ≡ q
  plane_low h =
      let g = count_le (may on (take (suc k) planes)) (length on) in
      let l = less in
      ap (λ (t : ℕ → Bool). nth t (length on) q) same
      ∙ nth_is (λ p. not (eqb (get_or planes k 0) p)) (length on) q q (omega arith)
      (ap not (ne_eqb (get_or planes k 0) q (λ e. omega arith))) (count_other (get_or planes k 0) q (omega arith))

  above : get_or planes k 0 ≤ q → q + 1 < length on
  above h = by (length on) less' (count_le (λ p. not (eqb (get_or planes k 0) p)) (length on))
    where
      by :
          (n : ℕ) → q < count (λ p. not (eqb (get_or planes k 0) p)) n → count (λ p. not (eqb (get_or planes k 0) p)) n ≤ n → q + 1 < n
      by zero a b = absurd (let no : ⊥ = omega arith in no)
      by (suc n) a b = let e = count_rest (get_or planes k 0) (suc n) (omega arith) in omega arith

  plane_high : get_or planes k 0 ≤ q → nth (may on (take (suc k) planes)) (length on) q ≡ q + 1
  plane_high h =
      ap (λ (t : ℕ → Bool). nth t (length on) q) same
      ∙ nth_is (λ p. not (eqb (get_or planes k 0) p)) (length on) (q + 1) q (above h)
      (ap not (ne_eqb (get_or planes k 0) (q + 1) (λ e. omega arith)))
      (let e = count_rest (get_or planes k 0) (q + 1) (omega arith) in omega arith)

pub follows_first : (on planes : List ℕ) (len q : ℕ) → len ≡ 0 → Followed on planes len q → Followed on [] 0 q
follows_first on planes len q e f = record {
  within = omega arith;
  few = f.few;
  less = subst (λ (n : ℕ). q < count (may on (take n planes)) (length on)) e f.less;
}

-- the same for the first `len`, of which there are some
module _ (on planes : List ℕ) (len q : ℕ) (some : len ≡ 0 → ⊥) (long : length planes ≡ most_order) (f : Followed on planes len q) where
  one_less : len ≡ suc (len - 1)
  one_less = let p = pos_of_ne-zero some in omega arith

  there : len - 1 < length planes
  there = let p = pos_of_ne-zero some in let w = f.within in let l = long in omega arith

  less : q < count (may on (take (suc (len - 1)) planes)) (length on)
  less = subst (λ (n : ℕ). q < count (may on (take n planes)) (length on)) one_less f.less

  pub later_low : q < get_or planes (len - 1) 0 → nth (may on (take len planes)) (length on) q ≡ q
  later_low h =
      ap (λ (n : ℕ). nth (may on (take n planes)) (length on) q) one_less ∙ plane_low on planes (len - 1) q there less h

  pub later_above : get_or planes (len - 1) 0 ≤ q → q + 1 < length on
  later_above h = above on planes (len - 1) q there less h

  pub later_high : get_or planes (len - 1) 0 ≤ q → nth (may on (take len planes)) (length on) q ≡ q + 1
  later_high h =
      ap (λ (n : ℕ). nth (may on (take n planes)) (length on) q) one_less ∙ plane_high on planes (len - 1) q there less h

-- ---- the sizes of blocks

cut_more : (c m s : ℕ) → min c (suc (m * s)) ≡ min c (1 + m * min c s)
cut_more c m s = by m (dec_le s c)
  where
    by : (m : ℕ) → Dec (s ≤ c) → min c (suc (m * s)) ≡ min c (1 + m * min c s)
    by m (yes l) =
        let e : s ≡ min c s = omega arith in
        let f : suc (m * s) ≡ 1 + m * s = omega arith in
        ap (min c) f ∙ ap (λ (x : ℕ). min c (1 + m * x)) e
    by zero (no l) = let a = zero-mul s in let b = zero-mul (min c s) in omega arith
    by (suc k) (no l) =
        let e : c ≡ min c s = omega arith in
        let a = suc-mul k s in
        let b = suc-mul k c in
        (let f : min c (suc (suc k * s)) ≡ min c (1 + suc k * c) = omega arith in f) ∙ ap (λ (x : ℕ). min c (1 + suc k * x)) e

-- one plane deeper
pub block_more : (m d : ℕ) → block_of m (d + 1) ≡ min cap (1 + m * block_of m d)
unfolding block_of
block_more m d = ap (λ (k : ℕ). min cap (series m k)) (add-one d) ∙ ap (min cap) (series_suc m d) ∙ cut_more cap m (series m d)

pub block_none : (m : ℕ) → 0 ≡ block_of m 0
unfolding block_of series
block_none m = refl

pub block_cut : (m d : ℕ) → block_of m d ≤ cap
unfolding block_of
block_cut m d = let g : (c s : ℕ) → min c s ≤ c = (λ c s. omega arith) in g cap (series m d)

pub block_some : (m d : ℕ) → 1 ≤ d → 1 ≤ block_of m d
unfolding block_of
block_some m zero h = absurd (let no : ⊥ = omega arith in no)
block_some m (suc d) h = let e = series_suc m d in let g : (s : ℕ) → 1 ≤ s →
    1 ≤ min cap s = (λ s l. omega arith) in g (series m (suc d)) (omega arith)

-- a factor of at most 256 and a block: no sum or product of the code wraps
pub product : (m b : ℕ) → m ≤ 256 → b ≤ 250001 → m * b ≤ 64000256
product m b h g = mul-le-mul h g

-- the cut is past every number of images
cut_images : (c e s : ℕ) → min c (e * min (suc c) s) ≡ min c (e * s)
cut_images c zero s = let a = zero-mul s in let b = zero-mul (min (suc c) s) in omega arith
cut_images c (suc e) s = by (dec_le s (suc c))
  where
    by : Dec (s ≤ suc c) → min c (suc e * min (suc c) s) ≡ min c (suc e * s)
    by (yes l) = ap (λ (x : ℕ). min c (suc e * x)) (let f : min (suc c) s ≡ s = omega arith in f)
    by (no l) =
        let f : min (suc c) s ≡ suc c = omega arith in
        let a = suc-mul e s in
        let b = suc-mul e (suc c) in
        ap (λ (x : ℕ). min c (suc e * x)) f ∙ (let g : min c (suc e * suc c) ≡ min c (suc e * s) = omega arith in g)

pub images_cut : (m e d : ℕ) → min most (e * block_of m d) ≡ min most (e * series m d)
unfolding block_of
images_cut m e d = cut_images most e (series m d)

-- and past every place: a division by a block is one by its cut size
cut_div : (c i s : ℕ) → i < c → i / min c s ≡ i / s
cut_div c i s h = by (dec_le s c)
  where
    by : Dec (s ≤ c) → i / min c s ≡ i / s
    by (yes l) = ap (λ (x : ℕ). i / x) (let f : min c s ≡ s = omega arith in f)
    by (no l) =
        ap (λ (x : ℕ). i / x) (let f : min c s ≡ c = omega arith in f) ∙ div-eq_of_lt h
        ∙ sym (div-eq_of_lt (let g : i < s = omega arith in g))

cut_mod : (c i s : ℕ) → i < c → i % min c s ≡ i % s
cut_mod c i s h = by (dec_le s c)
  where
    by : Dec (s ≤ c) → i % min c s ≡ i % s
    by (yes l) = ap (λ (x : ℕ). i % x) (let f : min c s ≡ s = omega arith in f)
    by (no l) =
        ap (λ (x : ℕ). i % x) (let f : min c s ≡ c = omega arith in f) ∙ mod-eq_of_lt h
        ∙ sym (mod-eq_of_lt (let g : i < s = omega arith in g))

pub block_div : (m d i : ℕ) → i < most → i / block_of m d ≡ i / series m d
unfolding block_of
block_div m d i h = cut_div cap i (series m d) (omega arith)

pub block_mod : (m d i : ℕ) → i < most → i % block_of m d ≡ i % series m d
unfolding block_of
block_mod m d i h = cut_mod cap i (series m d) (omega arith)
