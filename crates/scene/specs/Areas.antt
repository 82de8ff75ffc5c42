-- The lent areas as one table: the least length of each in t triples and c candidates, and refusal 5's test of them all.
-- `proofs/Bound.antt` proves that the lengths together keep document 01's bound, `proofs/Rooms.antt` what an area that passes the test has.
use Rattle.std.specs.Prelude.{ℕ, ◌+◌, ◌*◌, ◌≤◌, ltb, get_or, Bool, true, false, ◌||◌, List, [], ◌∷◌}
use Rattle.columns.specs.Columns.{column_count}
use Rattle.packet.specs.Limits.{out_bytes}
pub use Rattle.ranking.specs.Rows.{candidate_float_count, candidate_word_count}

-- an area: the words of 32 bits of an element, and how many elements it has a triple, a candidate, and more
pub record Area : Type 0 where
  pub words : ℕ
  pub triples : ℕ
  pub candidates : ℕ
  pub more : ℕ

abbrev pub area : ℕ → ℕ → ℕ → ℕ → Area
area w t c m = record { words = w; triples = t; candidates = c; more = m }

-- the areas in the order in which their lengths are given; the output is no work area, so its elements count no words
abbrev pub area_table : List Area
area_table =
    area 1 column_count 0 0  -- 0 triangles
    ∷ area 1 1 0 0  -- 1 handles
    ∷ area 1 22 0 0  -- 2 tree
    ∷ area 1 8 0 0  -- 3 nodes
    ∷ area 1 1 0 0  -- 4 leaf_order
    ∷ area 2 3 1 0  -- 5 keys
    ∷ area 2 3 0 0  -- 6 low_keys
    ∷ area 2 24 1 0  -- 7 words
    ∷ area 2 24 1 0  -- 8 scratch
    ∷ area 1 3 0 0  -- 9 index
    ∷ area 1 3 candidate_word_count 0  -- 10 numbers
    ∷ area 1 24 0 0  -- 11 adjacency
    ∷ area 1 3 1 0  -- 12 queue
    ∷ area 1 3 0 1  -- 13 offsets
    ∷ area 1 12 candidate_float_count 0  -- 14 floats
    ∷ area 1 1 0 1  -- 15 plane_triangles
    ∷ area 1 12 0 0  -- 16 plane_floats
    ∷ area 1 5 0 0  -- 17 plane_words
    ∷ area 1 18 0 0  -- 18 plane_edges
    ∷ area 0 0 0 out_bytes  -- 19 output
    ∷ []

-- the least length of an area
abbrev pub least_of : Area → ℕ → ℕ → ℕ
least_of a t c = a.triples * t + a.candidates * c + a.more

-- the words of 32 bits that areas of the least length take
unfoldable pub words_in : List Area → ℕ → ℕ → ℕ
words_in [] t c = 0
words_in (a ∷ rest) t c = a.words * least_of a t c + words_in rest t c

-- those of the work areas
abbrev pub work_words : ℕ → ℕ → ℕ
work_words t c = words_in area_table t c

-- an area is shorter than its least length; one without a length is
unfoldable pub short_in : List Area → ℕ → ℕ → List ℕ → Bool
short_in [] t c ls = false
short_in (a ∷ rest) t c [] = true
short_in (a ∷ rest) t c (l ∷ ls) = ltb l (least_of a t c) || short_in rest t c ls

abbrev pub short_of : ℕ → ℕ → List ℕ → Bool
short_of t c lens = short_in area_table t c lens

-- lengths, in the order of the table, that are not short
pub record Roomy
    (t c triangles handles tree nodes leaf_order keys low_keys words scratch index numbers adjacency queue offsets floats plane_triangles plane_floats plane_words plane_edges output : ℕ)
    : Type 0 where
  pub triangles_room : column_count * t ≤ triangles
  pub handles_room : t ≤ handles
  pub tree_room : 22 * t ≤ tree
  pub nodes_room : 8 * t ≤ nodes
  pub leaf_order_room : t ≤ leaf_order
  pub keys_room : 3 * t + c ≤ keys
  pub low_keys_room : 3 * t ≤ low_keys
  pub words_room : 24 * t + c ≤ words
  pub scratch_room : 24 * t + c ≤ scratch
  pub index_room : 3 * t ≤ index
  pub numbers_room : 3 * t + candidate_word_count * c ≤ numbers
  pub adjacency_room : 24 * t ≤ adjacency
  pub queue_room : 3 * t + c ≤ queue
  pub offsets_room : 3 * t + 1 ≤ offsets
  pub floats_room : 12 * t + candidate_float_count * c ≤ floats
  pub plane_triangles_room : t + 1 ≤ plane_triangles
  pub plane_floats_room : 12 * t ≤ plane_floats
  pub plane_words_room : 5 * t ≤ plane_words
  pub plane_edges_room : 18 * t ≤ plane_edges
  pub output_room : out_bytes ≤ output

-- the same of a list of lengths
abbrev pub RoomyIn : ℕ → ℕ → List ℕ → Type 0
RoomyIn t c lens =
    Roomy t c (get_or lens 0 0) (get_or lens 1 0) (get_or lens 2 0) (get_or lens 3 0) (get_or lens 4 0) (get_or lens 5 0) (get_or lens 6 0) (get_or lens 7 0)
    (get_or lens 8 0) (get_or lens 9 0) (get_or lens 10 0) (get_or lens 11 0) (get_or lens 12 0) (get_or lens 13 0) (get_or lens 14 0) (get_or lens 15 0)
    (get_or lens 16 0) (get_or lens 17 0) (get_or lens 18 0) (get_or lens 19 0)
