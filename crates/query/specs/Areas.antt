-- The work areas of a query as one record.
use Rattle.std.specs.Prelude.{ℕ, List, [], ◌∷◌, Float, length, replicate}
use Rattle.float.specs.Literals.{zero32}

pub record Work : Type 0 where
  pub triangles : List Float
  pub handles : List ℕ
  pub tree : List Float
  pub nodes : List ℕ
  pub leaf_order : List ℕ
  pub keys : List ℕ
  pub low_keys : List ℕ
  pub words : List ℕ
  pub scratch : List ℕ
  pub index : List ℕ
  pub numbers : List ℕ
  pub adjacency : List ℕ
  pub queue : List ℕ
  pub offsets : List ℕ
  pub floats : List Float
  pub plane_triangles : List ℕ
  pub plane_floats : List Float
  pub plane_words : List ℕ
  pub plane_edges : List Float

abbrev pub work : List Float → List ℕ → List Float → List ℕ → List ℕ → List ℕ → List ℕ → List ℕ → List ℕ → List ℕ → List ℕ → List ℕ → List ℕ → List ℕ → List Float → List ℕ → List Float → List ℕ → List Float → Work
work w0 w1 w2 w3 w4 w5 w6 w7 w8 w9 w10 w11 w12 w13 w14 w15 w16 w17 w18 =
    record { triangles = w0; handles = w1; tree = w2; nodes = w3; leaf_order = w4; keys = w5; low_keys = w6; words = w7; scratch = w8; index = w9; numbers = w10; adjacency = w11; queue = w12; offsets = w13; floats = w14; plane_triangles = w15; plane_floats = w16; plane_words = w17; plane_edges = w18 }

-- "zero": each as long as it was
abbrev pub zeroed : Work → Work
zeroed w =
    record {
      triangles = replicate (length w.triangles) zero32;
      handles = replicate (length w.handles) 0;
      tree = replicate (length w.tree) zero32;
      nodes = replicate (length w.nodes) 0;
      leaf_order = replicate (length w.leaf_order) 0;
      keys = replicate (length w.keys) 0;
      low_keys = replicate (length w.low_keys) 0;
      words = replicate (length w.words) 0;
      scratch = replicate (length w.scratch) 0;
      index = replicate (length w.index) 0;
      numbers = replicate (length w.numbers) 0;
      adjacency = replicate (length w.adjacency) 0;
      queue = replicate (length w.queue) 0;
      offsets = replicate (length w.offsets) 0;
      floats = replicate (length w.floats) zero32;
      plane_triangles = replicate (length w.plane_triangles) 0;
      plane_floats = replicate (length w.plane_floats) zero32;
      plane_words = replicate (length w.plane_words) 0;
      plane_edges = replicate (length w.plane_edges) zero32;
    }

-- their lengths, in the order of docs/AREAS.md, and that of the output area
abbrev pub lengths_of : Work → List ℕ → List ℕ
lengths_of w out =
    length w.triangles ∷
    length w.handles ∷
    length w.tree ∷
    length w.nodes ∷
    length w.leaf_order ∷
    length w.keys ∷
    length w.low_keys ∷
    length w.words ∷
    length w.scratch ∷
    length w.index ∷
    length w.numbers ∷
    length w.adjacency ∷
    length w.queue ∷
    length w.offsets ∷
    length w.floats ∷
    length w.plane_triangles ∷
    length w.plane_floats ∷
    length w.plane_words ∷
    length w.plane_edges ∷
    length out ∷ []
