-- The areas that the steps of `build_planes` work in, for columns of n triples and m triangles.
use Rattle.std.specs.Prelude.{ℕ, ◌*◌, ◌≤◌, ◌<◌, List, Float, length}
use Rattle.planes_patches.specs.Rows.{patch_floats}
use Rattle.mirror.specs.Rows.{plane_float_count, plane_word_count, edge_floats}

-- steps 1 to 3. The grid's cells stand in `keys`, the largest triangles in `next` and the flags in `first`.
pub record OpenRoom (n : ℕ) (keys low_keys index words scratch numbers first next : List ℕ) (areas plane_floats : List Float) (of : List ℕ) : Type 0 where
  pub keys_room : 3 * n ≤ length keys
  pub low_keys_room : 3 * n ≤ length low_keys
  pub index_room : 3 * n ≤ length index
  pub words_room : 3 * n ≤ length words
  pub scratch_room : 3 * n ≤ length scratch
  pub numbers_room : 3 * n ≤ length numbers
  pub first_room : n ≤ length first
  pub next_room : n ≤ length next
  pub areas_room : n ≤ length areas
  pub plane_floats_room : patch_floats * n ≤ length plane_floats
  pub of_room : n ≤ length of

-- step 4, and the planes of the groups. Seeds, then the planes of the triangles, stand in `first`; triangles by patch, then groups of
-- patches, in `index`; where these begin, then where the planes' triangles do, in `next`; adjacent patches, then the planes' words, in
-- `adjacency`; where those begin, then the planes' triangles, in `plane_triangles`.
pub record GroupRoom (n : ℕ) (keys words scratch index next adjacency plane_triangles first plane_words queue offsets : List ℕ) (floats : List Float) : Type 0 where
  pub keys_room : n ≤ length keys
  pub words_room : 24 * n ≤ length words
  pub scratch_room : 24 * n ≤ length scratch
  pub index_room : n ≤ length index
  pub next_room : n < length next
  pub adjacency_room : 24 * n ≤ length adjacency
  pub plane_triangles_room : n < length plane_triangles
  pub first_room : n ≤ length first
  pub plane_words_room : n ≤ length plane_words
  pub queue_room : 3 * n ≤ length queue
  pub offsets_room : 3 * n < length offsets
  pub floats_room : plane_float_count * n ≤ length floats

-- the elements of a local list of the triangles: `first`, `next` and `of`
abbrev pub seats : ℕ
seats = 4097

-- ---- all areas of `build_planes`
pub record PlanesRoom (n : ℕ) (keys low_keys words scratch index numbers adjacency queue offsets plane_triangles plane_words : List ℕ) (plane_floats floats plane_edges : List Float) : Type 0 where
  pub keys_room : 3 * n ≤ length keys
  pub low_keys_room : 3 * n ≤ length low_keys
  pub words_room : 24 * n ≤ length words
  pub scratch_room : 24 * n ≤ length scratch
  pub index_room : 3 * n ≤ length index
  pub numbers_room : 3 * n ≤ length numbers
  pub adjacency_room : 24 * n ≤ length adjacency
  pub queue_room : 3 * n ≤ length queue
  pub offsets_room : 3 * n < length offsets
  pub plane_triangles_room : n < length plane_triangles
  pub plane_words_room : plane_word_count * n ≤ length plane_words
  pub plane_floats_room : plane_float_count * n ≤ length plane_floats
  pub floats_room : plane_float_count * n ≤ length floats
  pub plane_edges_room : edge_floats * (3 * n) ≤ length plane_edges
