-- Two edges have one number where they are in one plane and have the same ends, in either direction (`edge_same`).
use mathlib.Core.Path.{◌≡◌, refl}
use mathlib.Core.Logic.{⊎_elim, ◌⊎◌, inl, inr}
use mathlib.Core.Bool.{true, ◌||◌, ◌&&◌}
use Prim.Native.Nat.{ℕ, ◌+◌, ◌*◌, ◌<◌}
use native.Mathlib.Omega.{arith}
use lib.Dec.{eqb}
use borrow.Author.Tests.{eq-eqb, eqb-true, le-leb, lt-leb}
use Rattle.laws.proofs.Bools.{or_cases, and_cases, or_right, bool_iff}
use Rattle.float.proofs.Numbers.{by_order}
use Rattle.planes_faces.specs.Triples.{lesser, greater}
use Rattle.planes_borders.specs.Uses.{edge_number}

-- p and q are r and s, in either order
abbrev Same : ℕ → ℕ → ℕ → ℕ → Type 0
Same p q r s = ((p ≡ r) × (q ≡ s)) ⊎ ((p ≡ s) × (q ≡ r))

tests_same : (p q r s : ℕ) → (eqb p r && eqb q s) || (eqb p s && eqb q r) ≡ true → Same p q r s
tests_same p q r s t =
    or_cases (eqb p r && eqb q s) (eqb p s && eqb q r)
    (λ u. and_cases (eqb p r) (eqb q s) (λ v w. inl (eqb-true p r v, eqb-true q s w)) u)
    (λ u. and_cases (eqb p s) (eqb q r) (λ v w. inr (eqb-true p s v, eqb-true q r w)) u) t

same_tests : (p q r s : ℕ) → Same p q r s → (eqb p r && eqb q s) || (eqb p s && eqb q r) ≡ true
same_tests p q r s =
    ⊎_elim (λ x. rw (eq-eqb p r x.0, eq-eqb q s x.1))
    (λ x. or_right (eqb p r && eqb q s) (eqb p s && eqb q r) (rw (eq-eqb p s x.0, eq-eqb q r x.1)))

-- ---- sorted

sorted_same : (p q : ℕ) → Same (lesser p q) (greater p q) p q
sorted_same p q = by_order p q (λ h. rw (le-leb p q h) (inl (refl, refl))) (λ h. rw (lt-leb p q h) (inr (refl, refl)))

sorted_turn : (p q : ℕ) → (lesser p q ≡ lesser q p) × (greater p q ≡ greater q p)
sorted_turn p q =
    by_order p q
    (λ h. by_order q p (λ g. rw (le-leb p q h, le-leb q p g) (omega arith, omega arith)) (λ g. rw (le-leb p q h, lt-leb q p g) (refl, refl)))
    (λ h. rw (lt-leb p q h, le-leb q p (omega arith)) (refl, refl))

same_sorted : (p q r s : ℕ) → Same p q r s → (lesser r s ≡ lesser p q) × (greater r s ≡ greater p q)
same_sorted p q r s = ⊎_elim (λ x. rw (x.0, x.1) (refl, refl)) (λ x. rw (x.0, x.1) (sorted_turn r s))

ends_same : (p q r s l h l' h' : ℕ) → Same l h p q → Same l' h' r s → l' ≡ l → h' ≡ h → Same p q r s
ends_same p q r s l h l' h' a b e f =
    ⊎_elim
    (λ x. ⊎_elim (λ y. inl (omega (arith, x.0, y.0, e), omega (arith, x.1, y.1, f))) (λ y. inr (omega (arith, x.0, y.0, e), omega (arith, x.1, y.1, f))) b)
    (λ x. ⊎_elim (λ y. inr (omega (arith, x.1, y.1, f), omega (arith, x.0, y.0, e))) (λ y. inl (omega (arith, x.1, y.1, f), omega (arith, x.0, y.0, e))) b)
    a

same_bound : (p q l h n : ℕ) → Same l h p q → p < n → q < n → (l < n) × (h < n)
same_bound p q l h n a hp hq = ⊎_elim (λ x. (omega (arith, x.0), omega (arith, x.1))) (λ x. (omega (arith, x.0), omega (arith, x.1))) a

-- ---- packed

pack_apart : (g h l m l' m' : ℕ) → l < 4294967296 → m < 4294967296 → l' < 4294967296 → m' < 4294967296
    → (g * 4294967296 + l) * 4294967296 + m ≡ (h * 4294967296 + l') * 4294967296 + m' → (g ≡ h) × (l ≡ l') × (m ≡ m')
pack_apart g h l m l' m' p q r s e = (omega arith, omega arith, omega arith)

pub edge_same : (g h p q r s : ℕ) → p < 4294967296 → q < 4294967296 → r < 4294967296 → s < 4294967296
    → eqb (edge_number h r s) (edge_number g p q) ≡ eqb h g && ((eqb p r && eqb q s) || (eqb p s && eqb q r))
unfolding edge_number
edge_same g h p q r s hp hq hr hs =
    let a = sorted_same p q in
    let b = sorted_same r s in
    let la = same_bound p q (lesser p q) (greater p q) 4294967296 a hp hq in
    let lb = same_bound r s (lesser r s) (greater r s) 4294967296 b hr hs in
    let x = (h * 4294967296 + lesser r s) * 4294967296 + greater r s in
    let y = (g * 4294967296 + lesser p q) * 4294967296 + greater p q in
    bool_iff (eqb x y) (eqb h g && ((eqb p r && eqb q s) || (eqb p s && eqb q r)))
    (λ t.
    let z = pack_apart h g (lesser r s) (greater r s) (lesser p q) (greater p q) lb.0 lb.1 la.0 la.1 (eqb-true x y t) in
    rw (eq-eqb h g z.0) (same_tests p q r s (ends_same p q r s (lesser p q) (greater p q) (lesser r s) (greater r s) a b z.1 z.2)))
    (λ t. and_cases (eqb h g) ((eqb p r && eqb q s) || (eqb p s && eqb q r))
    (λ u v. let z = same_sorted p q r s (tests_same p q r s v) in eq-eqb x y (rw (eqb-true h g u, z.0, z.1))) t)
