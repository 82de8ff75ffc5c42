-- Stores of rows and cells: what stands at their place afterwards, and that nothing else changes.
use mathlib.Core.Path.{◌≡◌, ◌∙◌}
use mathlib.Core.Logic.{⊎_elim, ◌⊎◌, inl, inr}
use mathlib.Core.List.{List}
use Prim.Native.Nat.{ℕ, ◌+◌, ◌*◌, ◌<◌, ◌≤◌}
use native.Mathlib.Omega.{arith}
use lib.Ieee.{Float, nan}
use lib.ListN.{length, get_or, set, length-set}
use lib.Seq.{get_or-set_same, get_or-set_other}
use Rattle.vector.specs.declared.Vec3.{Vec3}
use Rattle.float.proofs.Numbers.{by_order}
use Rattle.planes_patches.specs.declared.PatchRow.{PatchRow}
use Rattle.mirror.specs.Rows.{vec_of_floats}
use Rattle.planes_patches.specs.Rows.{patch_floats, row_in, Beside}
use Rattle.planes_patches.specs.Grid.{key, cell_at}

module _ {A : Type 0} (none : A) (l : List A) (at : ℕ) (a b c : A) where
  abbrev set3 : List A
  set3 = set (set (set l at a) (at + 1) b) (at + 2) c

  set3_first : at < length l → get_or set3 at none ≡ a
  set3_first h =
      get_or-set_other (set (set l at a) (at + 1) b) (at + 2) at c none (λ s. omega arith)
      ∙ get_or-set_other (set l at a) (at + 1) at b none (λ s. omega arith) ∙ get_or-set_same l at a none h

  set3_second : at + 1 < length l → get_or set3 (at + 1) none ≡ b
  set3_second h =
      get_or-set_other (set (set l at a) (at + 1) b) (at + 2) (at + 1) c none (λ s. omega arith)
      ∙ get_or-set_same (set l at a) (at + 1) b none (simp length-set h)

  set3_third : at + 2 < length l → get_or set3 (at + 2) none ≡ c
  set3_third h = get_or-set_same (set (set l at a) (at + 1) b) (at + 2) c none (simp length-set h)

  set3_other : (q : ℕ) → (q < at) ⊎ (at + 3 ≤ q) → get_or set3 q none ≡ get_or l q none
  set3_other q h =
      get_or-set_other (set (set l at a) (at + 1) b) (at + 2) q c none (λ s. ⊎_elim (λ w. omega arith) (λ w. omega arith) h)
      ∙ get_or-set_other (set l at a) (at + 1) q b none (λ s. ⊎_elim (λ w. omega arith) (λ w. omega arith) h)
      ∙ get_or-set_other l at q a none (λ s. ⊎_elim (λ w. omega arith) (λ w. omega arith) h)

pub vec_stored : (l : List Float) (at : ℕ) (v : Vec3) → at + 3 ≤ length l → vec_of_floats (set (set (set l at v.x) (at + 1) v.y) (at + 2) v.z) at ≡ v
unfolding vec_of_floats
vec_stored l at v h =
    rw (set3_first nan l at v.x v.y v.z (omega arith), set3_second nan l at v.x v.y v.z (omega arith), set3_third nan l at v.x v.y v.z (omega arith))

pub vec_beside : (l : List Float) (at : ℕ) (v : Vec3) → Beside at 3 l (set (set (set l at v.x) (at + 1) v.y) (at + 2) v.z)
unfolding Beside
vec_beside l at v = set3_other nan l at v.x v.y v.z

-- two places of threes
apart : (p q : ℕ) → (q ≡ p → ⊥) → (3 * q + 3 ≤ 3 * p) ⊎ (3 * p + 3 ≤ 3 * q)
apart p q d = by_order q p (λ h. inl (by_order p q (λ g. absurd (d (omega arith))) (λ g. omega arith))) (λ h. inr (omega arith))

pub cell_stored : (l : List ℕ) (p x y z : ℕ) → 3 * p + 3 ≤ length l → cell_at (set (set (set l (3 * p) x) (3 * p + 1) y) (3 * p + 2) z) p ≡ key x y z
unfolding cell_at
cell_stored l p x y z h =
    rw (set3_first 0 l (3 * p) x y z (omega arith), set3_second 0 l (3 * p) x y z (omega arith), set3_third 0 l (3 * p) x y z (omega arith))

pub cell_other : (l : List ℕ) (p x y z q : ℕ) → (q ≡ p → ⊥) → cell_at (set (set (set l (3 * p) x) (3 * p + 1) y) (3 * p + 2) z) q ≡ cell_at l q
unfolding cell_at
cell_other l p x y z q d =
    let a = apart p q d in
    let same : (r : ℕ) → (3 * q ≤ r) → (r < 3 * q + 3) → get_or (set (set (set l (3 * p) x) (3 * p + 1) y) (3 * p + 2) z) r 0 ≡ get_or l r 0 =
    λ r u w. set3_other 0 l (3 * p) x y z r (⊎_elim (λ s. inl (omega arith)) (λ s. inr (omega arith)) a) in
    rw (same (3 * q) (omega arith) (omega arith), same (3 * q + 1) (omega arith) (omega arith), same (3 * q + 2) (omega arith) (omega arith))

-- ---- rows

vec_same : (l m : List Float) (at count q : ℕ) → Beside at count l m → (q + 3 ≤ at) ⊎ (at + count ≤ q) → vec_of_floats m q ≡ vec_of_floats l q
unfolding Beside vec_of_floats
vec_same l m at count q b h =
    rw (
      b q (⊎_elim (λ w. inl (omega arith)) (λ w. inr (omega arith)) h),
      b (q + 1) (⊎_elim (λ w. inl (omega arith)) (λ w. inr (omega arith)) h),
      b (q + 2) (⊎_elim (λ w. inl (omega arith)) (λ w. inr (omega arith)) h),
    )

one_beside : (l : List Float) (at : ℕ) (x : Float) → Beside at 1 l (set l at x)
unfolding Beside
one_beside l at x q h = get_or-set_other l at q x nan (λ s. ⊎_elim (λ w. omega arith) (λ w. omega arith) h)

beside_at : (l m : List Float) (at count q : ℕ) → Beside at count l m → (q < at) ⊎ (at + count ≤ q) → get_or m q nan ≡ get_or l q nan
unfolding Beside
beside_at l m at count q b h = b q h

-- the five stores of a row
module _ (l0 l1 l4 l5 : List Float) (p : ℕ) (r : PatchRow) where
  abbrev l2 : List Float
  l2 = set l1 (patch_floats * p + 3) r.offset

  abbrev l3 : List Float
  l3 = set l2 (patch_floats * p + 4) r.area

  pub row_stored : length l1 ≡ length l0 → patch_floats * p + patch_floats ≤ length l0
      → vec_of_floats l1 (patch_floats * p) ≡ r.normal → vec_of_floats l4 (patch_floats * p + 5) ≡ r.aabb.min → vec_of_floats l5 (patch_floats * p + 8) ≡ r.aabb.max
      → Beside (patch_floats * p + 5) 3 l3 l4 → Beside (patch_floats * p + 8) 3 l4 l5 → row_in l5 p ≡ r
  unfolding row_in
  row_stored len room en ei ea b4 b5 =
      let at = patch_floats * p in
      let offset : get_or l5 (at + 3) nan ≡ r.offset =
      beside_at l4 l5 (at + 8) 3 (at + 3) b5 (inl (omega arith)) ∙ beside_at l3 l4 (at + 5) 3 (at + 3) b4 (inl (omega arith))
      ∙ get_or-set_other l2 (at + 4) (at + 3) r.area nan (λ s. omega arith) ∙ get_or-set_same l1 (at + 3) r.offset nan (omega arith) in
      let area : get_or l5 (at + 4) nan ≡ r.area =
      beside_at l4 l5 (at + 8) 3 (at + 4) b5 (inl (omega arith)) ∙ beside_at l3 l4 (at + 5) 3 (at + 4) b4 (inl (omega arith))
      ∙ get_or-set_same l2 (at + 4) r.area nan (let s = length-set l1 (at + 3) r.offset in omega arith) in
      let normal : vec_of_floats l5 at ≡ r.normal =
      vec_same l4 l5 (at + 8) 3 at b5 (inl (omega arith)) ∙ vec_same l3 l4 (at + 5) 3 at b4 (inl (omega arith))
      ∙ vec_same l2 l3 (at + 4) 1 at (one_beside l2 (at + 4) r.area) (inl (omega arith)) ∙ vec_same l1 l2 (at + 3) 1 at (one_beside l1 (at + 3) r.offset) (inl (omega arith)) ∙ en in
      let low : vec_of_floats l5 (at + 5) ≡ r.aabb.min = vec_same l4 l5 (at + 8) 3 (at + 5) b5 (inl (omega arith)) ∙ ei in
      rw (offset, area, normal, low, ea)

  pub row_other : Beside (patch_floats * p) 3 l0 l1 → Beside (patch_floats * p + 5) 3 l3 l4 → Beside (patch_floats * p + 8) 3 l4 l5
      → (q : ℕ) → (q ≡ p → ⊥) → row_in l5 q ≡ row_in l0 q
  unfolding row_in vec_of_floats
  row_other b1 b4 b5 q d =
      let at = patch_floats * p in
      let side : (patch_floats * q + patch_floats ≤ at) ⊎ (at + patch_floats ≤ patch_floats * q) =
      by_order q p (λ h. inl (by_order p q (λ g. absurd (d (omega arith))) (λ g. omega arith))) (λ h. inr (omega arith)) in
      let same : (i : ℕ) → patch_floats * q ≤ i → i < patch_floats * q + patch_floats → get_or l5 i nan ≡ get_or l0 i nan =
      λ i u w.
      beside_at l4 l5 (at + 8) 3 i b5 (⊎_elim (λ s. inl (omega arith)) (λ s. inr (omega arith)) side)
      ∙ beside_at l3 l4 (at + 5) 3 i b4 (⊎_elim (λ s. inl (omega arith)) (λ s. inr (omega arith)) side)
      ∙ beside_at l2 l3 (at + 4) 1 i (one_beside l2 (at + 4) r.area) (⊎_elim (λ s. inl (omega arith)) (λ s. inr (omega arith)) side)
      ∙ beside_at l1 l2 (at + 3) 1 i (one_beside l1 (at + 3) r.offset) (⊎_elim (λ s. inl (omega arith)) (λ s. inr (omega arith)) side)
      ∙ beside_at l0 l1 at 3 i b1 (⊎_elim (λ s. inl (omega arith)) (λ s. inr (omega arith)) side) in
      let a = patch_floats * q in
      rw (
        same a (omega arith) (omega arith),
        same (a + 1) (omega arith) (omega arith),
        same (a + 2) (omega arith) (omega arith),
        same (a + 3) (omega arith) (omega arith),
        same (a + 4) (omega arith) (omega arith),
        same (a + 5) (omega arith) (omega arith),
        same (a + 5 + 1) (omega arith) (omega arith),
        same (a + 5 + 2) (omega arith) (omega arith),
        same (a + 8) (omega arith) (omega arith),
        same (a + 8 + 1) (omega arith) (omega arith),
        same (a + 8 + 2) (omega arith) (omega arith),
      )
