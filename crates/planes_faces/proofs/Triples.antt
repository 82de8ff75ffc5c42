-- Three numbers in any order: the six tests of the definition, and the sorted three as one key.
--     any_order_packed    the six tests pass where the packed sorted numbers are equal
-- By the six orders as a relation that composes and turns back; two sorted triples in another order are equal.
use mathlib.Core.Path.{◌≡◌, refl}
use mathlib.Core.Bool.{Bool, true, ◌||◌, ◌&&◌}
use Prim.Native.Nat.{ℕ, ◌+◌, ◌*◌, ◌<◌, ◌≤◌}
use native.Mathlib.Omega.{arith}
use lib.Dec.{eqb}
use borrow.Author.Tests.{eq-eqb, eqb-true, le-leb, lt-leb}
use Rattle.laws.proofs.Bools.{or_cases, and_cases, or_right, bool_iff}
use Rattle.float.proofs.Numbers.{by_order}
use Rattle.planes_faces.specs.Triples.{any_order, lesser, greater, lowest, middle, highest, packed3}

-- the second three are the first in another order
pub data Reordered : ℕ → ℕ → ℕ → ℕ → ℕ → ℕ → Type 0 where
  abc : {a b c : ℕ} → Reordered a b c a b c
  bca : {a b c : ℕ} → Reordered a b c b c a
  cab : {a b c : ℕ} → Reordered a b c c a b
  acb : {a b c : ℕ} → Reordered a b c a c b
  cba : {a b c : ℕ} → Reordered a b c c b a
  bac : {a b c : ℕ} → Reordered a b c b a c

pub reordered_trans : {a b c d e f g h i : ℕ} → Reordered a b c d e f → Reordered d e f g h i → Reordered a b c g h i
reordered_trans abc abc = abc
reordered_trans abc bca = bca
reordered_trans abc cab = cab
reordered_trans abc acb = acb
reordered_trans abc cba = cba
reordered_trans abc bac = bac
reordered_trans bca abc = bca
reordered_trans bca bca = cab
reordered_trans bca cab = abc
reordered_trans bca acb = bac
reordered_trans bca cba = acb
reordered_trans bca bac = cba
reordered_trans cab abc = cab
reordered_trans cab bca = abc
reordered_trans cab cab = bca
reordered_trans cab acb = cba
reordered_trans cab cba = bac
reordered_trans cab bac = acb
reordered_trans acb abc = acb
reordered_trans acb bca = cba
reordered_trans acb cab = bac
reordered_trans acb acb = abc
reordered_trans acb cba = bca
reordered_trans acb bac = cab
reordered_trans cba abc = cba
reordered_trans cba bca = bac
reordered_trans cba cab = acb
reordered_trans cba acb = cab
reordered_trans cba cba = abc
reordered_trans cba bac = bca
reordered_trans bac abc = bac
reordered_trans bac bca = acb
reordered_trans bac cab = cba
reordered_trans bac acb = bca
reordered_trans bac cba = cab
reordered_trans bac bac = abc

pub reordered_sym : {a b c d e f : ℕ} → Reordered a b c d e f → Reordered d e f a b c
reordered_sym abc = abc
reordered_sym bca = cab
reordered_sym cab = bca
reordered_sym acb = acb
reordered_sym cba = cba
reordered_sym bac = bac

-- ---- the tests

or_left : (p q : Bool) → p ≡ true → p || q ≡ true
or_left p q e = rw e

three_eq : (a b c d e f : ℕ) → eqb a d && eqb b e && eqb c f ≡ true → (a ≡ d) × (b ≡ e) × (c ≡ f)
three_eq a b c d e f t =
    and_cases (eqb a d && eqb b e) (eqb c f) (λ s u. and_cases (eqb a d) (eqb b e) (λ v w. (eqb-true a d v, eqb-true b e w, eqb-true c f u)) s) t

three_same : (a b c : ℕ) → eqb a a && eqb b b && eqb c c ≡ true
three_same a b c = rw (eq-eqb a a refl, eq-eqb b b refl, eq-eqb c c refl)

pub tests_reordered : (a b c d e f : ℕ) → any_order eqb a b c d e f ≡ true → Reordered a b c d e f
unfolding any_order
tests_reordered a b c d e f t =
    let c0 : eqb a d && eqb b e && eqb c f ≡ true → Reordered a b c d e f = λ t. let h = three_eq a b c d e f t in rw (h.0, h.1, h.2) abc in
    let c1 : eqb a e && eqb b f && eqb c d ≡ true → Reordered a b c d e f = λ t. let h = three_eq a b c e f d t in rw (h.0, h.1, h.2) cab in
    let c2 : eqb a f && eqb b d && eqb c e ≡ true → Reordered a b c d e f = λ t. let h = three_eq a b c f d e t in rw (h.0, h.1, h.2) bca in
    let c3 : eqb a d && eqb b f && eqb c e ≡ true → Reordered a b c d e f = λ t. let h = three_eq a b c d f e t in rw (h.0, h.1, h.2) acb in
    let c4 : eqb a f && eqb b e && eqb c d ≡ true → Reordered a b c d e f = λ t. let h = three_eq a b c f e d t in rw (h.0, h.1, h.2) cba in
    let c5 : eqb a e && eqb b d && eqb c f ≡ true → Reordered a b c d e f = λ t. let h = three_eq a b c e d f t in rw (h.0, h.1, h.2) bac in
    or_cases ((eqb a d && eqb b e && eqb c f) || (eqb a e && eqb b f && eqb c d) || (eqb a f && eqb b d && eqb c e) || (eqb a d && eqb b f && eqb c e) || (eqb a f && eqb b e && eqb c d)) (eqb a e && eqb b d && eqb c f)
    (λ u. or_cases ((eqb a d && eqb b e && eqb c f) || (eqb a e && eqb b f && eqb c d) || (eqb a f && eqb b d && eqb c e) || (eqb a d && eqb b f && eqb c e)) (eqb a f && eqb b e && eqb c d)
    (λ u. or_cases ((eqb a d && eqb b e && eqb c f) || (eqb a e && eqb b f && eqb c d) || (eqb a f && eqb b d && eqb c e)) (eqb a d && eqb b f && eqb c e)
    (λ u. or_cases ((eqb a d && eqb b e && eqb c f) || (eqb a e && eqb b f && eqb c d)) (eqb a f && eqb b d && eqb c e)
    (λ u. or_cases (eqb a d && eqb b e && eqb c f) (eqb a e && eqb b f && eqb c d) c0 c1 u) c2 u) c3 u) c4 u) c5 t

reordered_abc : (a b c : ℕ) → any_order eqb a b c a b c ≡ true
unfolding any_order
reordered_abc a b c =
    or_left ((eqb a a && eqb b b && eqb c c) || (eqb a b && eqb b c && eqb c a) || (eqb a c && eqb b a && eqb c b) || (eqb a a && eqb b c && eqb c b) || (eqb a c && eqb b b && eqb c a)) (eqb a b && eqb b a && eqb c c)
    (or_left ((eqb a a && eqb b b && eqb c c) || (eqb a b && eqb b c && eqb c a) || (eqb a c && eqb b a && eqb c b) || (eqb a a && eqb b c && eqb c b)) (eqb a c && eqb b b && eqb c a)
    (or_left ((eqb a a && eqb b b && eqb c c) || (eqb a b && eqb b c && eqb c a) || (eqb a c && eqb b a && eqb c b)) (eqb a a && eqb b c && eqb c b)
    (or_left ((eqb a a && eqb b b && eqb c c) || (eqb a b && eqb b c && eqb c a)) (eqb a c && eqb b a && eqb c b)
    (or_left ((eqb a a && eqb b b && eqb c c)) (eqb a b && eqb b c && eqb c a) (three_same a b c)))))

reordered_cab : (a b c : ℕ) → any_order eqb a b c c a b ≡ true
unfolding any_order
reordered_cab a b c =
    or_left ((eqb a c && eqb b a && eqb c b) || (eqb a a && eqb b b && eqb c c) || (eqb a b && eqb b c && eqb c a) || (eqb a c && eqb b b && eqb c a) || (eqb a b && eqb b a && eqb c c)) (eqb a a && eqb b c && eqb c b)
    (or_left ((eqb a c && eqb b a && eqb c b) || (eqb a a && eqb b b && eqb c c) || (eqb a b && eqb b c && eqb c a) || (eqb a c && eqb b b && eqb c a)) (eqb a b && eqb b a && eqb c c)
    (or_left ((eqb a c && eqb b a && eqb c b) || (eqb a a && eqb b b && eqb c c) || (eqb a b && eqb b c && eqb c a)) (eqb a c && eqb b b && eqb c a)
    (or_left ((eqb a c && eqb b a && eqb c b) || (eqb a a && eqb b b && eqb c c)) (eqb a b && eqb b c && eqb c a)
    (or_right ((eqb a c && eqb b a && eqb c b)) (eqb a a && eqb b b && eqb c c) (three_same a b c)))))

reordered_bca : (a b c : ℕ) → any_order eqb a b c b c a ≡ true
unfolding any_order
reordered_bca a b c =
    or_left ((eqb a b && eqb b c && eqb c a) || (eqb a c && eqb b a && eqb c b) || (eqb a a && eqb b b && eqb c c) || (eqb a b && eqb b a && eqb c c) || (eqb a a && eqb b c && eqb c b)) (eqb a c && eqb b b && eqb c a)
    (or_left ((eqb a b && eqb b c && eqb c a) || (eqb a c && eqb b a && eqb c b) || (eqb a a && eqb b b && eqb c c) || (eqb a b && eqb b a && eqb c c)) (eqb a a && eqb b c && eqb c b)
    (or_left ((eqb a b && eqb b c && eqb c a) || (eqb a c && eqb b a && eqb c b) || (eqb a a && eqb b b && eqb c c)) (eqb a b && eqb b a && eqb c c)
    (or_right ((eqb a b && eqb b c && eqb c a) || (eqb a c && eqb b a && eqb c b)) (eqb a a && eqb b b && eqb c c) (three_same a b c))))

reordered_acb : (a b c : ℕ) → any_order eqb a b c a c b ≡ true
unfolding any_order
reordered_acb a b c =
    or_left ((eqb a a && eqb b c && eqb c b) || (eqb a c && eqb b b && eqb c a) || (eqb a b && eqb b a && eqb c c) || (eqb a a && eqb b b && eqb c c) || (eqb a b && eqb b c && eqb c a)) (eqb a c && eqb b a && eqb c b)
    (or_left ((eqb a a && eqb b c && eqb c b) || (eqb a c && eqb b b && eqb c a) || (eqb a b && eqb b a && eqb c c) || (eqb a a && eqb b b && eqb c c)) (eqb a b && eqb b c && eqb c a)
    (or_right ((eqb a a && eqb b c && eqb c b) || (eqb a c && eqb b b && eqb c a) || (eqb a b && eqb b a && eqb c c)) (eqb a a && eqb b b && eqb c c) (three_same a b c)))

reordered_cba : (a b c : ℕ) → any_order eqb a b c c b a ≡ true
unfolding any_order
reordered_cba a b c =
    or_left ((eqb a c && eqb b b && eqb c a) || (eqb a b && eqb b a && eqb c c) || (eqb a a && eqb b c && eqb c b) || (eqb a c && eqb b a && eqb c b) || (eqb a a && eqb b b && eqb c c)) (eqb a b && eqb b c && eqb c a)
    (or_right ((eqb a c && eqb b b && eqb c a) || (eqb a b && eqb b a && eqb c c) || (eqb a a && eqb b c && eqb c b) || (eqb a c && eqb b a && eqb c b)) (eqb a a && eqb b b && eqb c c) (three_same a b c))

reordered_bac : (a b c : ℕ) → any_order eqb a b c b a c ≡ true
unfolding any_order
reordered_bac a b c = or_right ((eqb a b && eqb b a && eqb c c) || (eqb a a && eqb b c && eqb c b) || (eqb a c && eqb b b && eqb c a) || (eqb a b && eqb b c && eqb c a) || (eqb a c && eqb b a && eqb c b)) (eqb a a && eqb b b && eqb c c) (three_same a b c)

pub reordered_tests : {a b c d e f : ℕ} → Reordered a b c d e f → any_order eqb a b c d e f ≡ true
reordered_tests (abc {a = a} {b = b} {c = c}) = reordered_abc a b c
reordered_tests (bca {a = a} {b = b} {c = c}) = reordered_bca a b c
reordered_tests (cab {a = a} {b = b} {c = c}) = reordered_cab a b c
reordered_tests (acb {a = a} {b = b} {c = c}) = reordered_acb a b c
reordered_tests (cba {a = a} {b = b} {c = c}) = reordered_cba a b c
reordered_tests (bac {a = a} {b = b} {c = c}) = reordered_bac a b c

-- ---- sorted

lesser_le : (a b : ℕ) → a ≤ b → lesser a b ≡ a
lesser_le a b h = rw (le-leb a b h)

lesser_gt : (a b : ℕ) → b < a → lesser a b ≡ b
lesser_gt a b h = rw (lt-leb a b h)

greater_le : (a b : ℕ) → a ≤ b → greater a b ≡ b
greater_le a b h = rw (le-leb a b h)

greater_gt : (a b : ℕ) → b < a → greater a b ≡ a
greater_gt a b h = rw (lt-leb a b h)

-- the lowest, the middle and the highest of three, in order
pub record Sorted3 (a b c l m h : ℕ) : Type 0 where
  pub low : l ≤ m
  pub high : m ≤ h
  pub same : Reordered a b c l m h

pub sort3 : (a b c : ℕ) → Sorted3 a b c (lowest a b c) (middle a b c) (highest a b c)
unfolding lowest middle highest
sort3 a b c =
    by_order a b
    (λ ab. by_order b c
    (λ bc. rw (lesser_le a b ab, greater_le a b ab, lesser_le a c (omega arith), lesser_le b c bc, greater_le a b ab, greater_le b c bc) (record { low = ab; high = bc; same = abc }))
    (λ cb. by_order a c
    (λ ac. rw (lesser_le a b ab, greater_le a b ab, lesser_le a c ac, lesser_gt b c cb, greater_le a c ac, greater_gt b c cb) (record { low = ac; high = omega arith; same = acb }))
    (λ ca. rw (lesser_le a b ab, greater_le a b ab, lesser_gt a c ca, lesser_gt b c cb, greater_gt a c ca, greater_gt b c cb) (record { low = omega arith; high = ab; same = cab }))))
    (λ ba. by_order a c
    (λ ac. rw (lesser_gt a b ba, greater_gt a b ba, lesser_le b c (omega arith), lesser_le a c ac, greater_le b a (omega arith), greater_le a c ac) (record { low = omega arith; high = ac; same = bac }))
    (λ ca. by_order b c
    (λ bc. rw (lesser_gt a b ba, greater_gt a b ba, lesser_le b c bc, lesser_gt a c ca, greater_le b c bc, greater_gt a c ca) (record { low = bc; high = omega arith; same = bca }))
    (λ cb. rw (lesser_gt a b ba, greater_gt a b ba, lesser_gt b c cb, lesser_gt a c ca, greater_gt b c cb, greater_gt a c ca) (record { low = omega arith; high = omega arith; same = cba }))))

-- two sorted threes that are the same in another order are equal
reordered_sorted : {l m h l' m' h' : ℕ} → Reordered l m h l' m' h' → l ≤ m → m ≤ h → l' ≤ m' → m' ≤ h' → (l ≡ l') × (m ≡ m') × (h ≡ h')
reordered_sorted abc p q r s = (omega arith, omega arith, omega arith)
reordered_sorted bca p q r s = (omega arith, omega arith, omega arith)
reordered_sorted cab p q r s = (omega arith, omega arith, omega arith)
reordered_sorted acb p q r s = (omega arith, omega arith, omega arith)
reordered_sorted cba p q r s = (omega arith, omega arith, omega arith)
reordered_sorted bac p q r s = (omega arith, omega arith, omega arith)

-- what bounds three bounds them in another order
pub reordered_bound : {a b c l m h : ℕ} (n : ℕ) → Reordered a b c l m h → a < n → b < n → c < n → (l < n) × (m < n) × (h < n)
reordered_bound n abc p q r = (p, q, r)
reordered_bound n bca p q r = (q, r, p)
reordered_bound n cab p q r = (r, p, q)
reordered_bound n acb p q r = (p, r, q)
reordered_bound n cba p q r = (r, q, p)
reordered_bound n bac p q r = (q, p, r)

pack_apart : (l m h l' m' h' : ℕ) → m < 4294967296 → h < 4294967296 → m' < 4294967296 → h' < 4294967296
    → (l * 4294967296 + m) * 4294967296 + h ≡ (l' * 4294967296 + m') * 4294967296 + h' → (l ≡ l') × (m ≡ m') × (h ≡ h')
pack_apart l m h l' m' h' p q r s e = (omega arith, omega arith, omega arith)

-- the packed key: the lowest above the middle above the highest
pub any_order_packed : (a b c d e f : ℕ) → a < 4294967296 → b < 4294967296 → c < 4294967296 → d < 4294967296 → e < 4294967296 → f < 4294967296
    → any_order eqb a b c d e f ≡ eqb (packed3 a b c) (packed3 d e f)
any_order_packed a b c d e f ha hb hc hd he hf =
    let s = sort3 a b c in
    let t = sort3 d e f in
    let u = reordered_bound 4294967296 s.same ha hb hc in
    let w = reordered_bound 4294967296 t.same hd he hf in
    bool_iff (any_order eqb a b c d e f) (eqb (packed3 a b c) (packed3 d e f))
    (λ p.
    let z = reordered_sorted (reordered_trans (reordered_sym s.same) (reordered_trans (tests_reordered a b c d e f p) t.same)) s.low s.high t.low t.high in
    eq-eqb (packed3 a b c) (packed3 d e f) (rw (z.0, z.1, z.2)))
    (λ p.
    let z = pack_apart (lowest a b c) (middle a b c) (highest a b c) (lowest d e f) (middle d e f) (highest d e f) u.1 u.2 w.1 w.2 (eqb-true (packed3 a b c) (packed3 d e f) p) in
    reordered_tests (reordered_trans s.same (rw (z.0, z.1, z.2) (reordered_sym t.same))))
