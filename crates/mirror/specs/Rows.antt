-- How planes stand in areas: a row of floats and a row of words each, which names its run of triangles and its run of border edges.
use Rattle.std.specs.Prelude.{ℕ, zero, suc, ◌+◌, ◌*◌, ◌≤◌, ◌<◌, eqb, length, get_or, take, drop, Float, ◌≡◌, not, List, [], ◌∷◌, map}
use Rattle.std.specs.Float.{nan}
use Rattle.order.specs.Sort.{Below}
use Rattle.order.specs.Runs.{up_to}
use Rattle.vector.specs.declared.Vec3.{Vec3}
use Rattle.vector.specs.Vector.{vec}
use Rattle.geometry.specs.declared.Triangle.{Triangle}
use Rattle.geometry.specs.Intersect.{edges_of_corners}
use Rattle.geometry.specs.Contains.{dots_of_edges}
use Rattle.columns.specs.Columns.{vec_at_of, edges_at_of, dots_at_of}
use Rattle.mirror.specs.Plane.{Edge, Plane}
use Rattle.mirror.specs.declared.PlaneRow.{PlaneRow}

-- floats of a plane: normal (3), offset, box from (3), box to (3), spread, area
abbrev pub plane_float_count : ℕ
plane_float_count = 12

-- words of a plane: first and count of its triangles in `members`, first and count of its edges in `edges`, fitted (not 0)
abbrev pub plane_word_count : ℕ
plane_word_count = 5

-- floats of an edge: start (3), end (3)
abbrev pub edge_floats : ℕ
edge_floats = 6

unfoldable pub vec_of_floats : List Float → ℕ → Vec3
vec_of_floats l at = vec (get_or l at nan) (get_or l (at + 1) nan) (get_or l (at + 2) nan)

-- the row of plane p
unfoldable pub row_of : List Float → List ℕ → ℕ → PlaneRow
row_of floats words p =
    record {
      normal = vec_of_floats floats (plane_float_count * p);
      offset = get_or floats (plane_float_count * p + 3) nan;
      aabb = record { min = vec_of_floats floats (plane_float_count * p + 4); max = vec_of_floats floats (plane_float_count * p + 7) };
      spread = get_or floats (plane_float_count * p + 10) nan;
      area = get_or floats (plane_float_count * p + 11) nan;
      first = get_or words (plane_word_count * p) 0;
      count = get_or words (plane_word_count * p + 1) 0;
      edge = get_or words (plane_word_count * p + 2) 0;
      edges = get_or words (plane_word_count * p + 3) 0;
      fitted = not (eqb (get_or words (plane_word_count * p + 4) 0) 0);
    }

-- edge k, and n edges from edge k on
unfoldable pub edge_in : List Float → ℕ → Edge
edge_in edges k = record { start = vec_of_floats edges (edge_floats * k); end = vec_of_floats edges (edge_floats * k + 3) }

unfoldable pub edges_in : List Float → ℕ → ℕ → List Edge
edges_in edges k zero = []
edges_in edges k (suc n) = edge_in edges k ∷ edges_in edges (k + 1) n

-- a row's triangles and border
unfoldable pub tris_of : PlaneRow → List ℕ → List ℕ
tris_of row members = take row.count (drop row.first members)

unfoldable pub border_of : PlaneRow → List Float → List Edge
border_of row edges = edges_in edges row.edge row.edges

-- the plane of a row, with its triangles and border
abbrev pub row_plane : PlaneRow → List ℕ → List Edge → Plane
row_plane row is es =
    record {
      normal = row.normal;
      offset = row.offset;
      area = row.area;
      box = row.aabb;
      tris = is;
      border = es;
      fitted = row.fitted;
      spread = row.spread;
    }

-- plane p, and the first `count` planes
unfoldable pub plane_in : List Float → List ℕ → List ℕ → List Float → ℕ → Plane
plane_in floats words members edges p = let row = row_of floats words p in row_plane row (tris_of row members) (border_of row edges)

unfoldable pub planes_in : List Float → List ℕ → List ℕ → List Float → ℕ → List Plane
planes_in floats words members edges count = map (plane_in floats words members edges) (up_to count)

-- ---- contracts

-- a row's runs lie within their areas, and its triangles are below n
pub record RunsIn (row : PlaneRow) (n : ℕ) (members : List ℕ) (edges : List Float) : Type 0 where
  pub members_room : row.first + row.count ≤ length members
  pub edges_room : edge_floats * (row.edge + row.edges) ≤ length edges
  pub below : Below n (tris_of row members)

-- the areas of `count` planes over triangles below n
pub record PlanesHeld (floats : List Float) (words members : List ℕ) (edges : List Float) (n count : ℕ) : Type 0 where
  pub floats_room : plane_float_count * count ≤ length floats
  pub words_room : plane_word_count * count ≤ length words
  pub runs : (p : ℕ) → p < count → RunsIn (row_of floats words p) n members edges

-- triangle i of the columns is t, as far as the tests of a ray and of a point go
pub record ReadsAs (columns : List Float) (n i : ℕ) (t : Triangle) : Type 0 where
  pub corner : vec_at_of columns n i ≡ t.a
  pub edges : edges_at_of columns n i ≡ edges_of_corners t.a t.b t.c
  pub dots : dots_at_of columns n i ≡ dots_of_edges (edges_of_corners t.a t.b t.c)

-- and so is each triangle of a list
unfoldable pub AllRead : (ℕ → Triangle) → List Float → ℕ → List ℕ → Type 0
AllRead tri columns n is = (k : ℕ) → k < length is → ReadsAs columns n (get_or is k 0) (tri (get_or is k 0))
