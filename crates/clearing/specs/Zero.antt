-- Areas of zeros: "6, 7 and every result leave them zero".
use Rattle.std.specs.Prelude.{ℕ, ◌≡◌, List, Float, length, replicate}
use Rattle.float.specs.Literals.{zero32}

-- an area of zeros
abbrev pub Zeros : List ℕ → Type 0
Zeros l = l ≡ replicate (length l) 0

abbrev pub ZeroFloats : List Float → Type 0
ZeroFloats l = l ≡ replicate (length l) zero32

-- the areas of the planes, the candidates and the list
pub record PlanesZero (keys low_keys words scratch index numbers adjacency queue offsets plane_triangles plane_words : List ℕ) (plane_floats floats plane_edges : List Float) : Type 0 where
  pub keys_zero : Zeros keys
  pub low_keys_zero : Zeros low_keys
  pub words_zero : Zeros words
  pub scratch_zero : Zeros scratch
  pub index_zero : Zeros index
  pub numbers_zero : Zeros numbers
  pub adjacency_zero : Zeros adjacency
  pub queue_zero : Zeros queue
  pub offsets_zero : Zeros offsets
  pub plane_triangles_zero : Zeros plane_triangles
  pub plane_words_zero : Zeros plane_words
  pub plane_floats_zero : ZeroFloats plane_floats
  pub floats_zero : ZeroFloats floats
  pub plane_edges_zero : ZeroFloats plane_edges

-- the areas of the triangles and their tree
pub record SceneZero (triangles : List Float) (handles : List ℕ) (tree : List Float) (nodes leaf_order : List ℕ) : Type 0 where
  pub triangles_zero : ZeroFloats triangles
  pub handles_zero : Zeros handles
  pub tree_zero : ZeroFloats tree
  pub nodes_zero : Zeros nodes
  pub leaf_order_zero : Zeros leaf_order
