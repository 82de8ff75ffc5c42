-- Known numbers: document 01's 2, 32 and 186 of 6 planes and order 3, and the ends of the ranges. All are computed, by division.
use Prim.Native.Nat.{ℕ, ◌-◌}
use mathlib.Core.Path.{◌≡◌, refl, sym, ap, ◌∙◌}
use mathlib.Core.Bool.{true, false}
use mathlib.Core.List.{List, [], ◌∷◌}
use lib.ListN.{replicate}
use Rattle.sequences.specs.Allowed.{may}
use Rattle.sequences.specs.Count.{count, series}
use Rattle.numbering.specs.Walls.{flags, is_one_to, takes, found, refused, sequence_answer}
use Rattle.numbering.specs.Unrank.{nth, unrank}
use Rattle.numbering.proofs.Answering.{answered, turned_away_lem}

-- no plane has the source on it
abbrev off : ℕ → List ℕ
off n = replicate n 0

walls :
    (planes order : ℕ) (on : List ℕ) (n : ℕ) (s : List ℕ) → takes planes order on n ≡ true → unrank on order [] (n - 1) ≡ s →
    sequence_answer planes order on n ≡ found s
walls planes order on n s e f = sym (answered planes order on n e) ∙ ap found f

no_walls : (planes order : ℕ) (on : List ℕ) (n : ℕ) → takes planes order on n ≡ false → sequence_answer planes order on n ≡ refused
no_walls planes order on n e = sym (turned_away_lem planes order on n e)

pub record Table : Type 0 where
  -- "0 1 is number 2, 1 is 32, 5 4 5 is 186"
  second : sequence_answer 6 3 (off 6) 2 ≡ found (0 ∷ 1 ∷ [])
  thirty_second : sequence_answer 6 3 (off 6) 32 ≡ found (1 ∷ [])
  last : sequence_answer 6 3 (off 6) 186 ≡ found (5 ∷ 4 ∷ 5 ∷ [])
  behind : sequence_answer 6 3 (off 6) 187 ≡ refused
  -- the source on plane 0: the first image begins with plane 1
  not_first : sequence_answer 6 3 (1 ∷ off 5) 1 ≡ found (1 ∷ [])
  then_first : sequence_answer 6 3 (1 ∷ off 5) 2 ≡ found (1 ∷ 0 ∷ [])
  -- where more than 250,000 are allowed
  most_of_6 : sequence_answer 6 8 (off 6) 250000 ≡ found (2 ∷ 3 ∷ 4 ∷ 5 ∷ 4 ∷ 5 ∷ 4 ∷ 5 ∷ [])
  half_of_6 : sequence_answer 6 8 (off 6) 125000 ≡ found (1 ∷ 2 ∷ 1 ∷ 5 ∷ 4 ∷ 5 ∷ 4 ∷ 3 ∷ [])
  most_of_32 : sequence_answer 32 4 (off 32) 250000 ≡ found (8 ∷ 3 ∷ 24 ∷ 9 ∷ [])
  most_of_256 : sequence_answer 256 8 (off 256) 250000 ≡ found (0 ∷ 1 ∷ 0 ∷ 1 ∷ 0 ∷ 4 ∷ 212 ∷ 133 ∷ [])
  past_most : sequence_answer 256 8 (off 256) 250001 ≡ refused
  -- all of 256 planes and order 2
  all_of_256 : sequence_answer 256 2 (off 256) 65536 ≡ found (255 ∷ 254 ∷ [])
  -- one plane has one image, whatever the order
  one_plane : sequence_answer 1 8 (off 1) 1 ≡ found (0 ∷ [])
  one_more : sequence_answer 1 8 (off 1) 2 ≡ refused
  -- the source on every plane: no image
  all_on : sequence_answer 6 8 (replicate 6 1) 1 ≡ refused
  -- the limits
  number_0 : sequence_answer 6 3 (off 6) 0 ≡ refused
  order_0 : sequence_answer 6 0 (off 6) 1 ≡ refused
  order_9 : sequence_answer 6 9 (off 6) 1 ≡ refused
  planes_0 : sequence_answer 0 3 [] 1 ≡ refused
  planes_257 : sequence_answer 257 3 (off 257) 1 ≡ refused
  a_byte_short : sequence_answer 6 3 (off 5) 1 ≡ refused
  a_byte_2 : sequence_answer 6 3 (2 ∷ off 5) 1 ≡ refused

pub table : Table
unfolding takes flags is_one_to count series may unrank nth
table = record {
  second = walls 6 3 (off 6) 2 (0 ∷ 1 ∷ []) refl refl;
  thirty_second = walls 6 3 (off 6) 32 (1 ∷ []) refl refl;
  last = walls 6 3 (off 6) 186 (5 ∷ 4 ∷ 5 ∷ []) refl refl;
  behind = no_walls 6 3 (off 6) 187 refl;
  not_first = walls 6 3 (1 ∷ off 5) 1 (1 ∷ []) refl refl;
  then_first = walls 6 3 (1 ∷ off 5) 2 (1 ∷ 0 ∷ []) refl refl;
  most_of_6 = walls 6 8 (off 6) 250000 (2 ∷ 3 ∷ 4 ∷ 5 ∷ 4 ∷ 5 ∷ 4 ∷ 5 ∷ []) refl refl;
  half_of_6 = walls 6 8 (off 6) 125000 (1 ∷ 2 ∷ 1 ∷ 5 ∷ 4 ∷ 5 ∷ 4 ∷ 3 ∷ []) refl refl;
  most_of_32 = walls 32 4 (off 32) 250000 (8 ∷ 3 ∷ 24 ∷ 9 ∷ []) refl refl;
  most_of_256 = walls 256 8 (off 256) 250000 (0 ∷ 1 ∷ 0 ∷ 1 ∷ 0 ∷ 4 ∷ 212 ∷ 133 ∷ []) refl refl;
  past_most = no_walls 256 8 (off 256) 250001 refl;
  all_of_256 = walls 256 2 (off 256) 65536 (255 ∷ 254 ∷ []) refl refl;
  one_plane = walls 1 8 (off 1) 1 (0 ∷ []) refl refl;
  one_more = no_walls 1 8 (off 1) 2 refl;
  all_on = no_walls 6 8 (replicate 6 1) 1 refl;
  number_0 = no_walls 6 3 (off 6) 0 refl;
  order_0 = no_walls 6 0 (off 6) 1 refl;
  order_9 = no_walls 6 9 (off 6) 1 refl;
  planes_0 = no_walls 0 3 [] 1 refl;
  planes_257 = no_walls 257 3 (off 257) 1 refl;
  a_byte_short = no_walls 6 3 (off 5) 1 refl;
  a_byte_2 = no_walls 6 3 (2 ∷ off 5) 1 refl;
}
