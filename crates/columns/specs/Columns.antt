-- Triangles in an area of columns, n floats each. Column k of triangle i stands at i + k * n: the x, y and z of its three corners (columns
-- 0 to 8) and of its normal (9 to 11), then what `intersect_max` and `contains_point` work out of the triangle alone: the two edges
-- (12 to 17), the least determinant (18), and the products and the divisor (19 to 22). Handles stand in an area of their own.
use Rattle.std.specs.Prelude.{ℕ, ◌+◌, ◌*◌, Float, get_or, set, List, [], ◌∷◌}
use Rattle.std.specs.Float.{nan}
use Rattle.vector.specs.declared.Vec3.{Vec3}
use Rattle.vector.specs.Vector.{vec}
use Rattle.geometry.specs.declared.Triangle.{Triangle}
use Rattle.geometry.specs.declared.Edges.{Edges}
use Rattle.geometry.specs.declared.Dots.{Dots}
use Rattle.geometry.specs.Intersect.{edges_of_corners}
use Rattle.geometry.specs.Contains.{dots_of_edges}

-- how many columns there are
abbrev pub column_count : ℕ
column_count = 23

-- ---- reading

-- a vector in three columns, its x at p
unfoldable pub vec_at_of : List Float → ℕ → ℕ → Vec3
vec_at_of area n p = vec (get_or area p nan) (get_or area (p + n) nan) (get_or area (p + 2 * n) nan)

-- triangle i
unfoldable pub triangle_at_of : List Float → List ℕ → ℕ → ℕ → Triangle
triangle_at_of area handles n i =
    record {
      a = vec_at_of area n i;
      b = vec_at_of area n (i + 3 * n);
      c = vec_at_of area n (i + 6 * n);
      normal = vec_at_of area n (i + 9 * n);
      material_handle = get_or handles i 0;
    }

-- its edges, and the products of its edges
unfoldable pub edges_at_of : List Float → ℕ → ℕ → Edges
edges_at_of area n i = record { edge1 = vec_at_of area n (i + 12 * n); edge2 = vec_at_of area n (i + 15 * n); least_det = get_or area (i + 18 * n) nan }

unfoldable pub dots_at_of : List Float → ℕ → ℕ → Dots
dots_at_of area n i =
    record { d00 = get_or area (i + 19 * n) nan; d01 = get_or area (i + 20 * n) nan; d11 = get_or area (i + 21 * n) nan; denom = get_or area (i + 22 * n) nan }

-- ---- storing

-- what stands of a triangle, first column first
unfoldable pub row_of : Triangle → List Float
row_of t =
    let e = edges_of_corners t.a t.b t.c in
    let d = dots_of_edges e in
    t.a.x ∷ t.a.y ∷ t.a.z ∷ t.b.x ∷ t.b.y ∷ t.b.z ∷ t.c.x ∷ t.c.y ∷ t.c.z ∷ t.normal.x ∷ t.normal.y ∷ t.normal.z ∷ e.edge1.x ∷ e.edge1.y ∷ e.edge1.z ∷ e.edge2.x ∷ e.edge2.y ∷ e.edge2.z ∷ e.least_det ∷ d.d00 ∷ d.d01 ∷ d.d11 ∷ d.denom ∷ []

-- the floats of a vector, and of the products with their divisor
abbrev pub vec_row_of : Vec3 → List Float
vec_row_of v = v.x ∷ v.y ∷ v.z ∷ []

abbrev pub dots_row_of : Dots → List Float
dots_row_of d = d.d00 ∷ d.d01 ∷ d.d11 ∷ d.denom ∷ []

-- a float in each column, the first at p
unfoldable pub put_columns : List Float → ℕ → ℕ → List Float → List Float
put_columns area n p [] = area
put_columns area n p (v ∷ vs) = put_columns (set area p v) n (p + n) vs

-- triangle i stored
unfoldable pub put_triangle_of : List Float → ℕ → ℕ → Triangle → List Float
put_triangle_of area n i t = put_columns area n i (row_of t)
