-- The loop of `edge_keys`: the keys of the sides of the triangles before t are there (`Keyed`). Three stores after one another.
use mathlib.Core.Path.{◌≡◌, refl, ◌∙◌}
use mathlib.Core.Logic.{⊎_elim, ◌⊎◌, inl}
use mathlib.Core.List.{List}
use Prim.Native.Nat.{ℕ, zero, suc, ◌+◌, ◌*◌, ◌-◌, ◌<◌, ◌≤◌}
use native.Mathlib.Nat.{not-suc-le-zero, add-zero}
use native.Mathlib.Omega.{arith}
use lib.ListN.{length, get_or, set, length-set}
use lib.Seq.{get_or-set_same, get_or-set_other}
use Rattle.order.specs.Sort.{Below}
use Rattle.float.proofs.Numbers.{by_order}
use Rattle.planes_faces.specs.Triples.{lesser, greater}
use Rattle.planes_faces.specs.Numbers.{key_at, place_in}
use Rattle.planes_borders.specs.Uses.{edge_number, side_number}

-- ---- three stores

module _ {A : Type 0} (none : A) (l l1 l2 l3 : List A) (at : ℕ) (a b c : A) (e1 : l1 ≡ set l at a) (e2 : l2 ≡ set l1 (at + 1) b) (e3 : l3 ≡ set l2 (at + 2) c) where
  pub three_length : length l3 ≡ length l
  three_length = rw (e3, e2, e1) (simp length-set)

  pub three_first : at < length l → get_or l3 at none ≡ a
  three_first h =
      rw (e3, e2, e1)
      (get_or-set_other (set (set l at a) (at + 1) b) (at + 2) at c none (λ s. omega arith)
      ∙ get_or-set_other (set l at a) (at + 1) at b none (λ s. omega arith) ∙ get_or-set_same l at a none h)

  pub three_second : at + 1 < length l → get_or l3 (at + 1) none ≡ b
  three_second h =
      rw (e3, e2, e1)
      (get_or-set_other (set (set l at a) (at + 1) b) (at + 2) (at + 1) c none (λ s. omega arith)
      ∙ get_or-set_same (set l at a) (at + 1) b none (simp length-set h))

  pub three_third : at + 2 < length l → get_or l3 (at + 2) none ≡ c
  three_third h = rw (e3, e2, e1) (get_or-set_same (set (set l at a) (at + 1) b) (at + 2) c none (simp length-set h))

  pub three_other : (q : ℕ) → (q < at) ⊎ (at + 3 ≤ q) → get_or l3 q none ≡ get_or l q none
  three_other q h =
      rw (e3, e2, e1)
      (get_or-set_other (set (set l at a) (at + 1) b) (at + 2) q c none (λ s. ⊎_elim (λ w. omega arith) (λ w. omega arith) h)
      ∙ get_or-set_other (set l at a) (at + 1) q b none (λ s. ⊎_elim (λ w. omega arith) (λ w. omega arith) h)
      ∙ get_or-set_other l at q a none (λ s. ⊎_elim (λ w. omega arith) (λ w. omega arith) h))

-- three sides
pub by_side : (P : ℕ → Type 0) → P 0 → P 1 → P 2 → (j : ℕ) → j < 3 → P j
by_side P a b c zero h = a
by_side P a b c (suc zero) h = b
by_side P a b c (suc (suc zero)) h = c
by_side P a b c (suc (suc (suc j))) h = absurd (let n : ⊥ = omega (arith, h) in n)

-- ---- the loop

pub record Keyed (id : List ℕ) (n : ℕ) (of hi₀ lo₀ hi lo : List ℕ) (t : ℕ) : Type 0 where
  pub len_hi : length hi ≡ length hi₀
  pub len_lo : length lo ≡ length lo₀
  pub fits : (q : ℕ) → q < 3 * t → get_or lo q 0 < 4294967296
  pub keys : (s j : ℕ) → s < t → j < 3 → key_at hi lo (3 * s + j) ≡ side_number id n of s j

pub keyed_none : (id : List ℕ) (n : ℕ) (of hi lo : List ℕ) → Keyed id n of hi lo hi lo 0
keyed_none id n of hi lo =
    record { len_hi = refl; len_lo = refl; fits = λ q h. absurd (let n : ⊥ = omega (arith, h) in n); keys = λ s j h g. absurd (not-suc-le-zero h) }

-- what three calls of `put_key` ensure
module _ (id : List ℕ) (n : ℕ) (of hi₀ lo₀ hi lo h1 l1 h2 l2 h3 l3 : List ℕ) (t : ℕ) where
  abbrev p : ℕ
  p = get_or id t 0

  abbrev q : ℕ
  q = get_or id (n + t) 0

  abbrev r : ℕ
  r = get_or id (2 * n + t) 0

  abbrev g : ℕ
  g = get_or of t 0

  pub keyed_more : Keyed id n of hi₀ lo₀ hi lo t → 3 * t + 3 ≤ length hi₀ → 3 * t + 3 ≤ length lo₀
      → (h1 ≡ set hi (3 * t) (g * 4294967296 + lesser p q)) × ((l1 ≡ set lo (3 * t) (greater p q)) × (greater p q < 4294967296))
      → (h2 ≡ set h1 (3 * t + 1) (g * 4294967296 + lesser q r)) × ((l2 ≡ set l1 (3 * t + 1) (greater q r)) × (greater q r < 4294967296))
      → (h3 ≡ set h2 (3 * t + 2) (g * 4294967296 + lesser r p)) × ((l3 ≡ set l2 (3 * t + 2) (greater r p)) × (greater r p < 4294967296))
      → Keyed id n of hi₀ lo₀ h3 l3 (t + 1)
  unfolding side_number edge_number place_in
  keyed_more k rh rl e1 e2 e3 =
      let lh = k.len_hi in let ll = k.len_lo in
      let x0 : get_or h3 (3 * t) 0 ≡ g * 4294967296 + lesser p q = three_first 0 hi h1 h2 h3 (3 * t) (g * 4294967296 + lesser p q) (g * 4294967296 + lesser q r) (g * 4294967296 + lesser r p) e1.0 e2.0 e3.0 (omega arith) in
      let x1 : get_or h3 (3 * t + 1) 0 ≡ g * 4294967296 + lesser q r = three_second 0 hi h1 h2 h3 (3 * t) (g * 4294967296 + lesser p q) (g * 4294967296 + lesser q r) (g * 4294967296 + lesser r p) e1.0 e2.0 e3.0 (omega arith) in
      let x2 : get_or h3 (3 * t + 2) 0 ≡ g * 4294967296 + lesser r p = three_third 0 hi h1 h2 h3 (3 * t) (g * 4294967296 + lesser p q) (g * 4294967296 + lesser q r) (g * 4294967296 + lesser r p) e1.0 e2.0 e3.0 (omega arith) in
      let y0 : get_or l3 (3 * t) 0 ≡ greater p q = three_first 0 lo l1 l2 l3 (3 * t) (greater p q) (greater q r) (greater r p) e1.1.0 e2.1.0 e3.1.0 (omega arith) in
      let y1 : get_or l3 (3 * t + 1) 0 ≡ greater q r = three_second 0 lo l1 l2 l3 (3 * t) (greater p q) (greater q r) (greater r p) e1.1.0 e2.1.0 e3.1.0 (omega arith) in
      let y2 : get_or l3 (3 * t + 2) 0 ≡ greater r p = three_third 0 lo l1 l2 l3 (3 * t) (greater p q) (greater q r) (greater r p) e1.1.0 e2.1.0 e3.1.0 (omega arith) in
      let xo : (i : ℕ) → i < 3 * t → get_or h3 i 0 ≡ get_or hi i 0 = λ i h. three_other 0 hi h1 h2 h3 (3 * t) (g * 4294967296 + lesser p q) (g * 4294967296 + lesser q r) (g * 4294967296 + lesser r p) e1.0 e2.0 e3.0 i (inl h) in
      let yo : (i : ℕ) → i < 3 * t → get_or l3 i 0 ≡ get_or lo i 0 = λ i h. three_other 0 lo l1 l2 l3 (3 * t) (greater p q) (greater q r) (greater r p) e1.1.0 e2.1.0 e3.1.0 i (inl h) in
      let here : (j : ℕ) → j < 3 → (get_or l3 (3 * t + j) 0 < 4294967296) × (key_at h3 l3 (3 * t + j) ≡ side_number id n of t j) =
      by_side (λ j. (get_or l3 (3 * t + j) 0 < 4294967296) × (key_at h3 l3 (3 * t + j) ≡ side_number id n of t j))
      (rw (add-zero (3 * t), x0, y0) (e1.1.1, refl)) (rw (x1, y1) (e2.1.1, refl)) (rw (x2, y2) (e3.1.1, refl)) in
      record {
        len_hi = three_length 0 hi h1 h2 h3 (3 * t) (g * 4294967296 + lesser p q) (g * 4294967296 + lesser q r) (g * 4294967296 + lesser r p) e1.0 e2.0 e3.0 ∙ lh;
        len_lo = three_length 0 lo l1 l2 l3 (3 * t) (greater p q) (greater q r) (greater r p) e1.1.0 e2.1.0 e3.1.0 ∙ ll;
        fits = λ i h. by_order (suc i) (3 * t) (λ l. rw (yo i l) (k.fits i l))
            (λ l. let e : 3 * t + (i - 3 * t) ≡ i = omega arith in rw e at (here (i - 3 * t) (omega arith)).0);
        keys = λ s j h d. by_order (suc s) t (λ l. rw (xo (3 * s + j) (omega arith), yo (3 * s + j) (omega arith)) (k.keys s j l d))
            (λ l. let e : s ≡ t = omega arith in rw e (here j d).1);
      }

pub keyed_low : (id : List ℕ) (n : ℕ) (of hi₀ lo₀ hi lo : List ℕ) (t : ℕ) → Keyed id n of hi₀ lo₀ hi lo t → length lo₀ ≤ 3 * t → Below 4294967296 lo
unfolding Below
keyed_low id n of hi₀ lo₀ hi lo t k e i h = let a = k.len_lo in k.fits i (omega arith)
