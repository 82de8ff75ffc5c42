-- The sums of `rays_of` and `words_of`: what is summed up to a place and what the definition gives from there on is the whole, and no sum wraps.
use Prim.Native.Nat.{ℕ, zero, suc, ◌+◌, ◌*◌, ◌≤◌, ◌<◌}
use mathlib.Core.Path.{◌≡◌, refl, sym, ap, ◌∙◌}
use mathlib.Core.List.{List, [], ◌∷◌, map}
use native.Mathlib.Nat.{mul-le-mul}
use native.Mathlib.Omega.{arith}
use lib.ListN.{length, get_or, drop}
use lib.Seq.{drop-cons}
use Rattle.scene.specs.Areas.{Area, area_table, words_in, work_words}
use Rattle.scene.proofs.Rooms.{triples_of, candidates_of, more_of, scaled_most, small}
use Rattle.cost.specs.Cost.{rays_at, rays_over}

-- ---- rays

-- k orders are summed
pub record Rays (limit : ℕ) (counts : List ℕ) (rays k : ℕ) : Type 0 where
  pub turn : k ≤ 8
  pub rest : rays + rays_over limit (suc k) (drop k counts) ≡ rays_over limit 1 counts
  pub low : rays ≤ k * 25000000000000

pub rays_none : (limit : ℕ) (counts : List ℕ) → Rays limit counts 0 0
rays_none limit counts = record { turn = omega arith; rest = omega arith; low = omega arith }

-- one term, with the count n of order k + 1
pub factor_fits : (limit k : ℕ) → limit ≤ 32 → k < 8 → 18 * (limit + 1) * (k + 2) ≤ 5346
factor_fits limit k h l =
    let one : 18 * (limit + 1) ≤ 594 = omega arith in
    let two : k + 2 ≤ 9 = omega arith in
    let a : 18 * (limit + 1) * (k + 2) ≤ 594 * 9 = mul-le-mul one two in
    omega arith

pub term_fits : (limit k n : ℕ) → limit ≤ 32 → k < 8 → n < 4294967296 → 18 * (limit + 1) * (k + 2) * n ≤ 25000000000000
term_fits limit k n h l m =
    let few : n ≤ 4294967296 = omega arith in
    let a : 18 * (limit + 1) * (k + 2) * n ≤ 5346 * 4294967296 = mul-le-mul (factor_fits limit k h l) few in
    omega arith

pub rays_more :
    (limit : ℕ) (counts : List ℕ) (rays k n : ℕ) → length counts ≡ 8 → limit ≤ 32 → k < 8 → n ≡ get_or counts k 0 → n < 4294967296 →
    Rays limit counts rays k → Rays limit counts (rays + 18 * (limit + 1) * (k + 2) * n) (k + 1)
unfolding rays_over
rays_more limit counts rays k n long h l is m t =
    let a = term_fits limit k n h l m in
    let cut : drop k counts ≡ n ∷ drop (suc k) counts = drop-cons counts k 0 (omega arith) ∙ ap (λ (x : ℕ). x ∷ drop (suc k) counts) (sym is) in
    let e : rays_over limit (suc k) (drop k counts) ≡ rays_at limit (suc k) * n + rays_over limit (suc (suc k)) (drop (suc k) counts) = ap (rays_over limit (suc k)) cut in
    let f : 18 * (limit + 1) * (k + 2) * n ≡ rays_at limit (suc k) * n = ap (λ (x : ℕ). 18 * (limit + 1) * x * n) (let z : k + 2 ≡ suc k + 1 = omega arith in z) in
    let g : rays_over limit (suc (k + 1)) (drop (k + 1) counts) ≡ rays_over limit (suc (suc k)) (drop (suc k) counts) =
    ap (λ (x : ℕ). rays_over limit (suc x) (drop x counts)) (let z : k + 1 ≡ suc k = omega arith in z)
    in
    let whole = t.rest in
    let low = t.low in
    record { turn = omega arith; rest = omega arith; low = omega arith }

pub rays_all : (limit : ℕ) (counts : List ℕ) (rays k : ℕ) → length counts ≡ 8 → 8 ≤ k → Rays limit counts rays k → rays ≡ rays_over limit 1 counts
unfolding rays_over
rays_all limit counts rays k long h t = by (drop k counts) (gone counts k (omega arith)) t.rest
  where
    gone : (l : List ℕ) (k : ℕ) → length l ≤ k → drop k l ≡ []
    gone [] zero h = refl
    gone [] (suc k) h = refl
    gone (x ∷ l) zero h = absurd (let z : ⊥ = omega arith in z)
    gone (x ∷ l) (suc k) h = gone l k (omega arith)

    by : (l : List ℕ) → l ≡ [] → rays + rays_over limit (suc k) l ≡ rays_over limit 1 counts → rays ≡ rays_over limit 1 counts
    by l e whole = let a : rays_over limit (suc k) l ≡ 0 = ap (rays_over limit (suc k)) e in omega arith

-- ---- words

-- the words of an element, area by area
abbrev pub words_of : List Area → List ℕ
words_of table = map (λ (a : Area). a.words) table

-- those of area i
abbrev pub area_words : ℕ → ℕ → ℕ → ℕ
area_words i t c = get_or (words_of area_table) i 0 * (get_or (triples_of area_table) i 0 * t + get_or (candidates_of area_table) i 0 * c + get_or (more_of area_table) i 0)

step :
    (table : List Area) (i t c : ℕ) → i < length table →
    words_in (drop i table) t c
    ≡ get_or (words_of table) i 0 * (get_or (triples_of table) i 0 * t + get_or (candidates_of table) i 0 * c + get_or (more_of table) i 0) + words_in (drop (suc i) table) t c
unfolding words_in
step [] i t c h = absurd (let z : ⊥ = omega arith in z)
step (a ∷ rest) zero t c h = refl
step (a ∷ rest) (suc i) t c h = step rest i t c (omega arith)

-- i areas are summed
pub record Words (t c words i : ℕ) : Type 0 where
  pub turn : i ≤ 20
  pub rest : words + words_in (drop i area_table) t c ≡ work_words t c
  pub low : words ≤ i * 7000000

pub words_none : (t c : ℕ) → Words t c 0 0
words_none t c = record { turn = omega arith; rest = omega arith; low = omega arith }

-- the area's least length, and its words
pub length_fits :
    (i t c : ℕ) → t ≤ 4096 → c ≤ 250000 → get_or (triples_of area_table) i 0 * t + get_or (candidates_of area_table) i 0 * c + get_or (more_of area_table) i 0 ≤ 3500000
length_fits i t c h l = let s = small i t c in let a = s.triples in let b = s.candidates in let d = s.more in omega arith

pub words_fit : (i t c : ℕ) → t ≤ 4096 → c ≤ 250000 → area_words i t c ≤ 7000000
words_fit i t c h l =
    let n = get_or (triples_of area_table) i 0 * t + get_or (candidates_of area_table) i 0 * c + get_or (more_of area_table) i 0 in
    let a = length_fits i t c h l in
    let b : area_words i t c ≤ 2 * n = scaled_most 2 (words_of area_table) i n refl in
    omega arith

pub words_more : (t c words i : ℕ) → t ≤ 4096 → c ≤ 250000 → i < 20 → Words t c words i → Words t c (words + area_words i t c) (i + 1)
words_more t c words i h l m w =
    let a = step area_table i t c m in
    let b = words_fit i t c h l in
    let e : words_in (drop (i + 1) area_table) t c ≡ words_in (drop (suc i) area_table) t c = ap (λ (n : ℕ). words_in (drop n area_table) t c) (let z : i + 1 ≡ suc i = omega arith in z) in
    let whole = w.rest in
    let low = w.low in
    record { turn = omega arith; rest = omega arith; low = omega arith }

pub words_all : (t c words i : ℕ) → 20 ≤ i → Words t c words i → words ≡ work_words t c
unfolding words_in
words_all t c words i h w =
    let e : i ≡ 20 = let a = w.turn in omega arith in
    let z : words_in (drop i area_table) t c ≡ 0 = ap (λ (n : ℕ). words_in (drop n area_table) t c) e in
    let whole = w.rest in
    omega arith
