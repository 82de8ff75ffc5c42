-- The areas that the ranked planes are stored from and in, for columns of n triples and m triangles.
use Rattle.std.specs.Prelude.{ℕ, ◌+◌, ◌*◌, ◌≤◌, ◌<◌, ◌≡◌, List, [], ◌∷◌, Float, length}
use Rattle.columns.specs.Columns.{column_count}
use Rattle.planes_patches.specs.Rows.{tris_in}
use Rattle.order.specs.Sort.{Below}
use Rattle.planes_links.specs.Words.{most_triangles}
use Rattle.mirror.specs.Plane.{Plane}
use Rattle.mirror.specs.declared.PlaneRow.{PlaneRow}
use Rattle.mirror.specs.Rows.{plane_float_count, plane_word_count, edge_floats, row_of, tris_of, row_plane, PlanesHeld}
use Rattle.planes_borders.specs.Uses.{border_in}

-- the triangles
pub record TrianglesLent (area : List Float) (handles : List ℕ) (n m : ℕ) : Type 0 where
  pub few : n ≤ most_triangles
  pub some : m ≤ n
  pub columns : column_count * n ≤ length area
  pub named : n ≤ length handles

-- a row with another run of edges
abbrev pub with_edges : PlaneRow → ℕ → ℕ → PlaneRow
with_edges r e k =
    record { normal = r.normal; offset = r.offset; aabb = r.aabb; spread = r.spread; area = r.area; first = r.first; count = r.count; edge = e; edges = k; fitted = r.fitted }

-- the triangles of planes, counted
unfoldable pub sum_counts : List Float → List ℕ → List ℕ → ℕ
sum_counts floats words [] = 0
sum_counts floats words (g ∷ gs) = (row_of floats words g).count + sum_counts floats words gs

-- plane g of the rows, with the border that its triangles have
unfoldable pub bordered_in : List Float → ℕ → List Float → List ℕ → List ℕ → List ℕ → List ℕ → ℕ → Plane
bordered_in area n floats words members first uses g =
    let row = row_of floats words g in
    let is = tris_of row members in
    row_plane row is (border_in area n first uses is)

-- what the ranked planes are stored from: `count` planes over m triangles, an order of some of them, and the edges counted
pub record RankedLent (area : List Float) (n m : ℕ) (gfloats : List Float) (gwords members index first uses : List ℕ) (count : ℕ) : Type 0 where
  pub area_room : 9 * n ≤ length area
  pub few : m ≤ n
  pub held : PlanesHeld gfloats gwords members [] m count
  pub below : Below count index
  pub total : sum_counts gfloats gwords index ≤ m
  pub first_room : length first ≡ 3 * m
  pub first_below : Below (length uses) first
  pub short : 3 * m < 4294967296

-- where they are stored
pub record RankedRoom (m count : ℕ) (floats : List Float) (words : List ℕ) (edges : List Float) : Type 0 where
  pub floats_room : plane_float_count * count ≤ length floats
  pub words_room : plane_word_count * count ≤ length words
  pub edges_room : edge_floats * (3 * m) ≤ length edges

-- the edges of all planes, counted
pub record EdgesRoom (n : ℕ) (keys low_keys index words scratch numbers queue offsets : List ℕ) : Type 0 where
  pub keys_room : 3 * n ≤ length keys
  pub low_keys_room : 3 * n ≤ length low_keys
  pub index_room : 3 * n ≤ length index
  pub words_room : 3 * n ≤ length words
  pub scratch_room : 3 * n ≤ length scratch
  pub numbers_room : 3 * n ≤ length numbers
  pub queue_room : 3 * n ≤ length queue
  pub offsets_room : 3 * n ≤ length offsets

-- the planes of the groups, each with the triangles that have its number
pub record GroupPlanes (m ng : ℕ) (gfloats : List Float) (gwords members numbers : List ℕ) : Type 0 where
  pub few : ng ≤ m
  pub held : PlanesHeld gfloats gwords members [] m ng
  pub tris : (g : ℕ) → g < ng → tris_of (row_of gfloats gwords g) members ≡ tris_in numbers m g
  pub numbered : m ≤ length numbers
