-- The keys of corners in columns: what the loop of `point_keys` holds (`Made`), three calls of it after one another (`corners_all_lem`), and
-- step 1 by these keys as the definition of it (`first_in`).
use mathlib.Core.Path.{◌≡◌, refl, sym, ap, ◌∙◌}
use mathlib.Core.List.{List}
use Prim.Native.Nat.{ℕ, suc, ◌+◌, ◌-◌, ◌*◌, ◌<◌}
use native.Mathlib.Nat.{not-suc-le-zero, zero-add, add-zero}
use native.Mathlib.Omega.{arith}
use lib.Dec.{eqb}
use lib.ListN.{length, get_or, set, length-set}
use lib.Seq.{get_or-set_same, get_or-set_other}
use lib.Ieee.{Float, nan}
use Rattle.order.specs.Sort.{Below}
use Rattle.float.proofs.Numbers.{by_order}
use Rattle.order.proofs.Stable.{by-eq}
use Rattle.order.proofs.Positions.{get_or_map_up_to}
use Rattle.planes_faces.specs.Numbers.{key_at, is_new_at}
use Rattle.planes_faces.specs.Key.{Key, vertex_steps_per_metre, key_by, step_of, vertex_key}
use Rattle.planes_faces.specs.Numbers.{number_of}
use Rattle.columns.specs.Columns.{vec_at_of}
use Rattle.planes_faces.specs.Faces.{Face, no_face, keys_of, face_at, is_first, face_in, faces_in}
use Rattle.planes_faces.proofs.Numbers.{face_ranged, new_first}

-- the key of point j
abbrev pub point_key : List Float → ℕ → ℕ → Float → ℕ → Key
point_key area n at k j = key_by k (vec_at_of area n (j + at))

-- up to i the keys are there, and before put nothing is changed
pub record Made (area : List Float) (n at put : ℕ) (k : Float) (i : ℕ) (hi₀ lo₀ hi lo : List ℕ) : Type 0 where
  pub len_hi : length hi ≡ length hi₀
  pub len_lo : length lo ≡ length lo₀
  pub high : (j : ℕ) → j < i → get_or hi (put + j) 0 ≡ (point_key area n at k j).x * 4294967296 + (point_key area n at k j).y
  pub low : (j : ℕ) → j < i → get_or lo (put + j) 0 ≡ (point_key area n at k j).z
  pub fits : (j : ℕ) → j < i → get_or lo (put + j) 0 < 4294967296
  pub same_hi : (q : ℕ) → q < put → get_or hi q 0 ≡ get_or hi₀ q 0
  pub same_lo : (q : ℕ) → q < put → get_or lo q 0 ≡ get_or lo₀ q 0

pub made_none : (area : List Float) (n at put : ℕ) (k : Float) (hi lo : List ℕ) → Made area n at put k 0 hi lo hi lo
made_none area n at put k hi lo =
    record { len_hi = refl; len_lo = refl; high = λ j h. absurd (not-suc-le-zero h); low = λ j h. absurd (not-suc-le-zero h); fits = λ j h. absurd (not-suc-le-zero h); same_hi = λ q h. refl; same_lo = λ q h. refl }

put_more : (P : ℕ → ℕ → Type 0) (l : List ℕ) (put i v : ℕ) → put + i < length l → ((j : ℕ) → j < i → P j (get_or l (put + j) 0)) → P i v → (j : ℕ) → j < i + 1 → P j (get_or (set l (put + i) v) (put + j) 0)
put_more P l put i v h f p j g =
    by-eq j i (λ e. rw (e, get_or-set_same l (put + i) v 0 h) p)
    (λ d. rw (get_or-set_other l (put + i) (put + j) v 0 (λ s. d (omega arith))) (f j (below j i d g)))
  where
    below : (j i : ℕ) → (j ≡ i → ⊥) → j < i + 1 → j < i
    below j i d g = by_order i j (λ h. absurd (d (omega arith))) (λ h. h)

pub made_more : (area : List Float) (n at put : ℕ) (k : Float) (i : ℕ) (hi₀ lo₀ hi lo : List ℕ) (x y z v w : ℕ) → Made area n at put k i hi₀ lo₀ hi lo
    → put + i < length hi₀ → put + i < length lo₀
    → x ≡ (point_key area n at k i).x → y ≡ (point_key area n at k i).y → z ≡ (point_key area n at k i).z
    → v ≡ x * 4294967296 + y → (w ≡ z) × (w < 4294967296)
    → Made area n at put k (i + 1) hi₀ lo₀ (set hi (put + i) v) (set lo (put + i) w)
made_more area n at put k i hi₀ lo₀ hi lo x y z v w m h g ex ey ez ev ew =
    let a = m.len_hi in let b = m.len_lo in
    record {
      len_hi = length-set hi (put + i) v ∙ a;
      len_lo = length-set lo (put + i) w ∙ b;
      high = put_more (λ j u. u ≡ (point_key area n at k j).x * 4294967296 + (point_key area n at k j).y) hi put i v (omega arith) m.high (ev ∙ rw (ex, ey));
      low = put_more (λ j u. u ≡ (point_key area n at k j).z) lo put i w (omega arith) m.low (ew.0 ∙ ez);
      fits = put_more (λ j u. u < 4294967296) lo put i w (omega arith) m.fits ew.1;
      same_hi = λ q l. get_or-set_other hi (put + i) q v 0 (λ s. omega arith) ∙ m.same_hi q l;
      same_lo = λ q l. get_or-set_other lo (put + i) q w 0 (λ s. omega arith) ∙ m.same_lo q l;
    }

pub made_all : (area : List Float) (n at put : ℕ) (k : Float) (hi₀ lo₀ hi lo : List ℕ) → Made area n at put k n hi₀ lo₀ hi lo
    → (j : ℕ) → j < n → key_at hi lo (put + j) ≡ number_of (key_by k (vec_at_of area n (j + at)))
made_all area n at put k hi₀ lo₀ hi lo m j h = rw (m.high j h, m.low j h)

-- the parts of a point's key
pub part_x : (area : List Float) (n at : ℕ) (k : Float) (i r : ℕ) → r ≡ step_of k (get_or area (i + at) nan) → r ≡ (point_key area n at k i).x
unfolding key_by vec_at_of
part_x area n at k i r e = e

pub part_y : (area : List Float) (n at : ℕ) (k : Float) (i r : ℕ) → r ≡ step_of k (get_or area (i + at + n) nan) → r ≡ (point_key area n at k i).y
unfolding key_by vec_at_of
part_y area n at k i r e = e

pub part_z : (area : List Float) (n at : ℕ) (k : Float) (i r : ℕ) → r ≡ step_of k (get_or area (i + at + 2 * n) nan) → r ≡ (point_key area n at k i).z
unfolding key_by vec_at_of
part_z area n at k i r e = e

-- ---- all triangles

-- face i of the triangles in an area
pub face_in_lem : (area : List Float) (n i : ℕ) → i < n → face_at (faces_in area n) i ≡ face_in area n i
unfolding face_at faces_in
face_in_lem area n i h = get_or_map_up_to (face_in area n) n i no_face h

-- STEP 1 by keys is the definition's
pub first_in : (area : List Float) (n : ℕ) (k : ℕ → ℕ)
    → ((i : ℕ) → i < n → k i ≡ number_of (key_by vertex_steps_per_metre (vec_at_of area n i)))
    → ((i : ℕ) → i < n → k (n + i) ≡ number_of (key_by vertex_steps_per_metre (vec_at_of area n (i + 3 * n))))
    → ((i : ℕ) → i < n → k (2 * n + i) ≡ number_of (key_by vertex_steps_per_metre (vec_at_of area n (i + 6 * n))))
    → (i : ℕ) → i < n → is_new_at k n i ≡ is_first (faces_in area n) i
unfolding face_in keys_of vertex_key
first_in area n k a b c i h =
    new_first (faces_in area n) n k
    (λ j g. rw (face_in_lem area n j g) (face_ranged (vec_at_of area n j) (vec_at_of area n (j + 3 * n)) (vec_at_of area n (j + 6 * n))))
    (λ j g. a j g ∙ ap (λ (f : Face). number_of f.a) (sym (face_in_lem area n j g)))
    (λ j g. b j g ∙ ap (λ (f : Face). number_of f.b) (sym (face_in_lem area n j g)))
    (λ j g. c j g ∙ ap (λ (f : Face). number_of f.c) (sym (face_in_lem area n j g)))
    i h

-- the same, for a number that `first_faces` stored
pub first_at_lem : (area : List Float) (n : ℕ) (k : ℕ → ℕ)
    → ((i : ℕ) → i < n → k i ≡ number_of (key_by vertex_steps_per_metre (vec_at_of area n i)))
    → ((i : ℕ) → i < n → k (n + i) ≡ number_of (key_by vertex_steps_per_metre (vec_at_of area n (i + 3 * n))))
    → ((i : ℕ) → i < n → k (2 * n + i) ≡ number_of (key_by vertex_steps_per_metre (vec_at_of area n (i + 6 * n))))
    → (i r : ℕ) → i < n → eqb r i ≡ is_new_at k n i → eqb r i ≡ is_first (faces_in area n) i
first_at_lem area n k a b c i r h e = e ∙ first_in area n k a b c i h

-- ---- three calls after one another

pub low_all : (n : ℕ) (lo₁ lo₂ lo₃ : List ℕ) → length lo₃ ≡ 3 * n
    → ((j : ℕ) → j < n → get_or lo₁ (0 + j) 0 < 4294967296) → ((j : ℕ) → j < n → get_or lo₂ (n + j) 0 < 4294967296) → ((j : ℕ) → j < n → get_or lo₃ (2 * n + j) 0 < 4294967296)
    → ((q : ℕ) → q < n → get_or lo₂ q 0 ≡ get_or lo₁ q 0) → ((q : ℕ) → q < 2 * n → get_or lo₃ q 0 ≡ get_or lo₂ q 0) → Below 4294967296 lo₃
unfolding Below
low_all n lo₁ lo₂ lo₃ len a b c s t i h =
    by_order (suc i) n
    (λ g. rw (t i (omega arith), s i g) (rw (zero-add i) at (a i g)))
    (λ g. by_order (suc i) (2 * n)
    (λ l. let e : n + (i - n) ≡ i = omega arith in rw (t i l) (rw e at (b (i - n) (omega arith))))
    (λ l. let e : 2 * n + (i - 2 * n) ≡ i = omega arith in rw e at (c (i - 2 * n) (omega arith))))

-- what a call of `point_keys` ensures
abbrev pub Ensured : List Float → ℕ → ℕ → ℕ → Float → List ℕ → List ℕ → List ℕ → List ℕ → Type 0
Ensured area n at put k h₀ l₀ h l =
    ((j : ℕ) → j < n → key_at h l (put + j) ≡ number_of (key_by k (vec_at_of area n (j + at)))) × (((j : ℕ) → j < n → get_or l (put + j) 0 < 4294967296)
    × (((q : ℕ) → q < put → get_or h q 0 ≡ get_or h₀ q 0) × ((q : ℕ) → q < put → get_or l q 0 ≡ get_or l₀ q 0)))

key_kept : (h₀ l₀ h l : List ℕ) (q : ℕ) → get_or h q 0 ≡ get_or h₀ q 0 → get_or l q 0 ≡ get_or l₀ q 0 → key_at h l q ≡ key_at h₀ l₀ q
key_kept h₀ l₀ h l q a b = rw (a, b)

pub corners_all_lem : (area : List Float) (n : ℕ) (k : Float) (h₀ l₀ h₁ l₁ h₂ l₂ h₃ l₃ : List ℕ) → length l₃ ≡ 3 * n
    → Ensured area n 0 0 k h₀ l₀ h₁ l₁ → Ensured area n (3 * n) n k h₁ l₁ h₂ l₂ → Ensured area n (6 * n) (2 * n) k h₂ l₂ h₃ l₃
    → Below 4294967296 l₃ × (((i : ℕ) → i < n → key_at h₃ l₃ i ≡ number_of (key_by k (vec_at_of area n i)))
    × (((i : ℕ) → i < n → key_at h₃ l₃ (n + i) ≡ number_of (key_by k (vec_at_of area n (i + 3 * n))))
    × ((i : ℕ) → i < n → key_at h₃ l₃ (2 * n + i) ≡ number_of (key_by k (vec_at_of area n (i + 6 * n))))))
corners_all_lem area n k h₀ l₀ h₁ l₁ h₂ l₂ h₃ l₃ len a b c = (
  low_all n l₁ l₂ l₃ len a.1.0 b.1.0 c.1.0 b.1.1.1 c.1.1.1,
  (
    λ i h. key_kept h₂ l₂ h₃ l₃ i (c.1.1.0 i (omega arith)) (c.1.1.1 i (omega arith)) ∙ key_kept h₁ l₁ h₂ l₂ i (b.1.1.0 i h) (b.1.1.1 i h) ∙ (rw (zero-add i, add-zero i) at (a.0 i h)),
    (
      λ i h. key_kept h₂ l₂ h₃ l₃ (n + i) (c.1.1.0 (n + i) (omega arith)) (c.1.1.1 (n + i) (omega arith)) ∙ b.0 i h,
      c.0,
    ),
  ),
)
