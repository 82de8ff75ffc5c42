-- A triangle read back from the columns: the one that was stored, with its edges and products, and any other as it was.
use mathlib.Core.Path.{◌≡◌, refl, sym, ap, ◌∙◌}
use mathlib.Core.List.{List}
use Prim.Native.Nat.{ℕ, ◌+◌, ◌*◌, ◌%◌, ◌<◌, ◌≤◌}
use native.Mathlib.Nat.{add-mul-mod_self_right, mod-eq_of_lt}
use native.Mathlib.Omega.{arith}
use lib.Ieee.{Float, nan}
use lib.ListN.{length, get_or}
use Rattle.vector.specs.declared.Vec3.{Vec3}
use Rattle.geometry.specs.declared.Triangle.{Triangle}
use Rattle.geometry.specs.Intersect.{edges_of_corners}
use Rattle.geometry.specs.Contains.{dots_of_edges}
use Rattle.columns.specs.Columns.{column_count, vec_at_of, triangle_at_of, edges_at_of, dots_at_of, row_of, put_columns, put_triangle_of}
use Rattle.columns.proofs.Storing.{length_put, put_same, put_other}

-- two rows share no place
rows_apart : (n i j k m : ℕ) → i < n → j < n → (j ≡ i → ⊥) → j + m * n ≡ i + k * n → ⊥
rows_apart n i j k m is js other e =
    let a : (j + m * n) % n ≡ j = add-mul-mod_self_right j m n ∙ mod-eq_of_lt js in
    let b : (i + k * n) % n ≡ i = add-mul-mod_self_right i k n ∙ mod-eq_of_lt is in
    other (sym a ∙ (ap (λ (q : ℕ). q % n) e ∙ b))

module _ (area : List Float) (n i : ℕ) (t : Triangle) (room : column_count * n ≤ length area) (is : i < n) where
  -- column k of the row stored, at a place that is said otherwise
  stored : (k q : ℕ) → k < column_count → q ≡ i + k * n → i + k * n < length area → get_or (put_triangle_of area n i t) q nan ≡ get_or (row_of t) k nan
  unfolding put_triangle_of row_of
  stored k q few e r = ap (λ (p : ℕ). get_or (put_columns area n i (row_of t)) p nan) e ∙ put_same area n i (row_of t) k (omega (arith, is)) few r

  -- three columns from column k on
  vec_stored :
      (k p : ℕ) (v : Vec3) → p ≡ i + k * n → k + 2 < column_count → i + (k + 2) * n < length area → i + (k + 1) * n < length area → i + k * n < length area →
      p + n ≡ i + (k + 1) * n → p + 2 * n ≡ i + (k + 2) * n →
      get_or (row_of t) k nan ≡ v.x → get_or (row_of t) (k + 1) nan ≡ v.y → get_or (row_of t) (k + 2) nan ≡ v.z →
      vec_at_of (put_triangle_of area n i t) n p ≡ v
  unfolding vec_at_of
  vec_stored k p v e few r2 r1 r0 e1 e2 x y z =
      rw (stored k p (omega (arith, few)) e r0, stored (k + 1) (p + n) (omega (arith, few)) e1 r1, stored (k + 2) (p + 2 * n) few e2 r2, x, y, z)

  -- the triangle, its edges and the products of its edges
  pub triangle_same : (handles : List ℕ) → get_or handles i 0 ≡ t.material_handle → triangle_at_of (put_triangle_of area n i t) handles n i ≡ t
  unfolding triangle_at_of row_of
  triangle_same handles h =
      rw (
        vec_stored 0 i t.a (omega arith) (omega arith) (omega arith) (omega arith) (omega arith) (omega arith) (omega arith) refl refl refl,
        vec_stored 3 (i + 3 * n) t.b (omega arith) (omega arith) (omega arith) (omega arith) (omega arith) (omega arith) (omega arith) refl refl refl,
        vec_stored 6 (i + 6 * n) t.c (omega arith) (omega arith) (omega arith) (omega arith) (omega arith) (omega arith) (omega arith) refl refl refl,
        vec_stored 9 (i + 9 * n) t.normal (omega arith) (omega arith) (omega arith) (omega arith) (omega arith) (omega arith) (omega arith) refl refl refl,
        h,
      )

  pub edges_same : edges_at_of (put_triangle_of area n i t) n i ≡ edges_of_corners t.a t.b t.c
  unfolding edges_at_of row_of
  edges_same =
      let e = edges_of_corners t.a t.b t.c in
      rw (
        vec_stored 12 (i + 12 * n) e.edge1 (omega arith) (omega arith) (omega arith) (omega arith) (omega arith) (omega arith) (omega arith) refl refl refl,
        vec_stored 15 (i + 15 * n) e.edge2 (omega arith) (omega arith) (omega arith) (omega arith) (omega arith) (omega arith) (omega arith) refl refl refl,
        stored 18 (i + 18 * n) (omega arith) refl (omega arith),
      )

  pub dots_same : dots_at_of (put_triangle_of area n i t) n i ≡ dots_of_edges (edges_of_corners t.a t.b t.c)
  unfolding dots_at_of row_of
  dots_same =
      rw (
        stored 19 (i + 19 * n) (omega arith) refl (omega arith),
        stored 20 (i + 20 * n) (omega arith) refl (omega arith),
        stored 21 (i + 21 * n) (omega arith) refl (omega arith),
        stored 22 (i + 22 * n) (omega arith) refl (omega arith),
      )

  -- another row, by the place of its column m
  kept : (j : ℕ) → j < n → (j ≡ i → ⊥) → (m q : ℕ) → q ≡ j + m * n → get_or (put_triangle_of area n i t) q nan ≡ get_or area q nan
  unfolding put_triangle_of
  kept j js other m q e = put_other area n i (row_of t) q (λ k _ s. rows_apart n i j k m is js other (sym e ∙ s))

  vec_kept :
      (j : ℕ) → j < n → (j ≡ i → ⊥) → (m p : ℕ) → p ≡ j + m * n → p + n ≡ j + (m + 1) * n → p + 2 * n ≡ j + (m + 2) * n →
      vec_at_of (put_triangle_of area n i t) n p ≡ vec_at_of area n p
  unfolding vec_at_of
  vec_kept j js other m p e e1 e2 = rw (kept j js other m p e, kept j js other (m + 1) (p + n) e1, kept j js other (m + 2) (p + 2 * n) e2)

  pub triangle_other :
      (handles handles' : List ℕ) (j : ℕ) → j < n → (j ≡ i → ⊥) → get_or handles' j 0 ≡ get_or handles j 0 →
      triangle_at_of (put_triangle_of area n i t) handles' n j ≡ triangle_at_of area handles n j
  unfolding triangle_at_of
  triangle_other handles handles' j js other h =
      rw (
        vec_kept j js other 0 j (omega arith) (omega arith) (omega arith),
        vec_kept j js other 3 (j + 3 * n) (omega arith) (omega arith) (omega arith),
        vec_kept j js other 6 (j + 6 * n) (omega arith) (omega arith) (omega arith),
        vec_kept j js other 9 (j + 9 * n) (omega arith) (omega arith) (omega arith),
        h,
      )

  pub edges_other : (j : ℕ) → j < n → (j ≡ i → ⊥) → edges_at_of (put_triangle_of area n i t) n j ≡ edges_at_of area n j
  unfolding edges_at_of
  edges_other j js other =
      rw (
        vec_kept j js other 12 (j + 12 * n) (omega arith) (omega arith) (omega arith),
        vec_kept j js other 15 (j + 15 * n) (omega arith) (omega arith) (omega arith),
        kept j js other 18 (j + 18 * n) (omega arith),
      )

  pub dots_other : (j : ℕ) → j < n → (j ≡ i → ⊥) → dots_at_of (put_triangle_of area n i t) n j ≡ dots_at_of area n j
  unfolding dots_at_of
  dots_other j js other =
      rw (
        kept j js other 19 (j + 19 * n) (omega arith),
        kept j js other 20 (j + 20 * n) (omega arith),
        kept j js other 21 (j + 21 * n) (omega arith),
        kept j js other 22 (j + 22 * n) (omega arith),
      )

  pub length_stored : length (put_triangle_of area n i t) ≡ length area
  unfolding put_triangle_of
  length_stored = length_put area n i (row_of t)
