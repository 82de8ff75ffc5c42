-- Edges by number: edge 3 t + j is side j of triangle t, in its plane. What the contracts of the code cite.
use Rattle.std.specs.Prelude.{ℕ, zero, suc, ◌+◌, ◌*◌, ◌<◌, ◌≤◌, ◌≡◌, Bool, eqb, Float, length, get_or, List, [], ◌∷◌}
use mathlib.Core.List.{flat_map}
use Rattle.std.specs.Float.{nan}
use Rattle.columns.specs.Columns.{vec_at_of}
use Rattle.order.specs.Runs.{up_to}
use Rattle.planes_faces.specs.Triples.{lesser, greater}
use Rattle.planes_faces.specs.Numbers.{corner_in, number_in}
use Rattle.planes_patches.specs.Lists.{keep_if, count_by}
use Rattle.planes_patches.specs.Rows.{none_of, tris_in}
use Rattle.mirror.specs.Plane.{Edge}
use Rattle.mirror.specs.Rows.{edge_floats, edges_in}
use Rattle.planes_borders.specs.Border.{KeyedEdge, keyed_of, is_same_edge}

-- the corner after corner j
abbrev pub next_of : ℕ → ℕ
next_of zero = 1
next_of (suc zero) = 2
next_of (suc (suc j)) = 0

-- ---- keys of edges

-- a plane and two numbers, in either order, as one number
unfoldable pub edge_number : ℕ → ℕ → ℕ → ℕ
edge_number plane p q = (plane * 4294967296 + lesser p q) * 4294967296 + greater p q

-- the number of side j of triangle t
unfoldable pub side_number : List ℕ → ℕ → List ℕ → ℕ → ℕ → ℕ
side_number id n of t j = edge_number (get_or of t 0) (number_in id n j t) (number_in id n (next_of j) t)

-- ---- counts

-- how many of the first e numbers of a list are k
unfoldable pub count_in : List ℕ → ℕ → ℕ → ℕ
count_in xs k e = count_by (λ d. eqb (get_or xs d 0) k) (up_to e)

-- edge e is the only one of its key
unfoldable pub is_once_in : List ℕ → List ℕ → ℕ → Bool
is_once_in first uses e = eqb (get_or uses (get_or first e 0) 0) 1

-- side j of triangle t of columns, and the three sides
unfoldable pub side_in : List Float → ℕ → ℕ → ℕ → KeyedEdge
side_in area n t j = keyed_of (corner_in area n j t) (corner_in area n (next_of j) t)

unfoldable pub sides_in : List Float → ℕ → ℕ → List KeyedEdge
sides_in area n t = side_in area n t 0 ∷ side_in area n t 1 ∷ side_in area n t 2 ∷ []

-- of m triangles, the sides counted once are those that no other side of their plane lies on
unfoldable pub OnceCounted : List Float → ℕ → List ℕ → ℕ → List ℕ → List ℕ → Type 0
OnceCounted area n of m first uses =
    (g t j : ℕ) → t < m → j < 3 → get_or of t none_of ≡ g → is_once_in first uses (3 * t + j) ≡ eqb (count_by (is_same_edge (side_in area n t j)) (flat_map (sides_in area n) (tris_in of m g))) 1

-- ---- borders in areas

-- the edge between the corners whose x stand at p and q
unfoldable pub edge_at : List Float → ℕ → ℕ → ℕ → Edge
edge_at area n p q = record { start = vec_at_of area n p; end = vec_at_of area n q }

-- the sides of triangle t that are counted once
unfoldable pub border_sides : List Float → ℕ → List ℕ → List ℕ → ℕ → List Edge
border_sides area n first uses t =
    keep_if (is_once_in first uses (3 * t)) (edge_at area n t (t + 3 * n)) (keep_if (is_once_in first uses (3 * t + 1)) (edge_at area n (t + 3 * n) (t + 6 * n)) (keep_if (is_once_in first uses (3 * t + 2)) (edge_at area n (t + 6 * n) t) []))

-- those of each triangle of a list
unfoldable pub border_in : List Float → ℕ → List ℕ → List ℕ → List ℕ → List Edge
border_in area n first uses is = flat_map (border_sides area n first uses) is

-- the edges es stand from edge number k on, up to r; what stands before k and from r on is as it was
pub record Appended (old new : List Float) (k r : ℕ) (es : List Edge) : Type 0 where
  pub count : r ≡ k + length es
  pub stored : edges_in new k (length es) ≡ es
  pub before : (q : ℕ) → q < edge_floats * k → get_or new q nan ≡ get_or old q nan
  pub after : (q : ℕ) → edge_floats * r ≤ q → get_or new q nan ≡ get_or old q nan
