-- The triangles of a leaf, tried in order: the inner loop of `FlatBvh::intersect`. A triangle is a function of its index.
use Rattle.std.specs.Prelude.{ℕ, ◌+◌, ◌*◌, ◌<◌, eqb, Float, length, get_or, ◌≡◌, Bool, cond, ◌||◌, List, [], ◌∷◌, None, Some}
use Rattle.std.specs.Float.{nan}
use Rattle.std.specs.Float.Ieee.{lt}
use Rattle.vector.specs.declared.Vec3.{Vec3}
use Rattle.vector.specs.declared.Ray.{Ray}
use Rattle.vector.specs.Vector.{vec}
use Rattle.geometry.specs.declared.Triangle.{Triangle}
use Rattle.geometry.specs.declared.Edges.{Edges}
use Rattle.geometry.specs.Intersect.{Crossing, edges_of_corners, crossing_of, intersect_max_of}
use Rattle.tree_trace.specs.declared.Closest.{Closest}

-- `t < best || closest.is_none()`: a nearer crossing, or the first one, takes the place of the closest
abbrev pub takes_of : Float → ℕ → Closest → Bool
takes_of t i best = lt t best.distance || eqb best.found 0

abbrev pub keep_of : Crossing → ℕ → Closest → Closest
keep_of None i best = best
keep_of (Some (t, u, v)) i best = cond (takes_of t i best) (record { distance = t; index = i; found = 1 }) best

-- with a triangle by its first corner and its edges
unfoldable pub visit_edges_of : Vec3 → Edges → Ray → ℕ → Closest → Closest
visit_edges_of a e ray i best = keep_of (crossing_of a e ray best.distance) i best

-- `if let Some(t) = tri.intersect_max(ray, best)`
unfoldable pub visit_of : Triangle → Ray → ℕ → Closest → Closest
visit_of tri ray i best = keep_of (intersect_max_of tri ray best.distance) i best

-- `for tri in &self.triangles[..]`
unfoldable pub visit_all_of : (ℕ → Triangle) → Ray → List ℕ → Closest → Closest
visit_all_of tri ray [] best = best
visit_all_of tri ray (i ∷ is) best = visit_all_of tri ray is (visit_of (tri i) ray i best)

-- ---- the triangles' rows, in the leaves' order: ten floats each, the first corner, the two edges and the least determinant

unfoldable pub corner_at_of : List Float → ℕ → Vec3
corner_at_of rows k = vec (get_or rows (10 * k) nan) (get_or rows (10 * k + 1) nan) (get_or rows (10 * k + 2) nan)

unfoldable pub edges_at_of : List Float → ℕ → Edges
edges_at_of rows k =
    record {
      edge1 = vec (get_or rows (10 * k + 3) nan) (get_or rows (10 * k + 4) nan) (get_or rows (10 * k + 5) nan);
      edge2 = vec (get_or rows (10 * k + 6) nan) (get_or rows (10 * k + 7) nan) (get_or rows (10 * k + 8) nan);
      least_det = get_or rows (10 * k + 9) nan;
    }

-- the row of a triangle at k
pub record RowAt (rows : List Float) (k : ℕ) (t : Triangle) : Type 0 where
  pub corner : corner_at_of rows k ≡ t.a
  pub edges : edges_at_of rows k ≡ edges_of_corners t.a t.b t.c

-- the rows are those of the triangles that p orders
unfoldable pub LeafRows : (ℕ → Triangle) → List ℕ → List Float → Type 0
LeafRows tri p rows = (k : ℕ) → k < length p → RowAt rows k (tri (get_or p k 0))
