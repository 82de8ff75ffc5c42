-- Document 02, Note 2: "It undoes the numbering, and numbering undoes it, for every image that a query can visit."
use Rattle.std.specs.Prelude.{ℕ, ◌≤◌, ◌≡◌, ◌↔◌, true, List, length}
use Rattle.sequences.specs.Allowed.{most_order, most_planes}
use Rattle.sequences.specs.Members.{Image, IsVisited}
use Rattle.numbering.specs.Walls.{flags, found, refused, sequence_answer}

-- an order, and a byte for each plane, as a query that visits images has them
pub record Room (on : List ℕ) (order : ℕ) : Type 0 where
  pub low : 1 ≤ order
  pub high : order ≤ most_order
  pub some : 1 ≤ length on
  pub few : length on ≤ most_planes
  pub bytes : flags on ≡ true

-- `seen` is what is visited by document 01's order, the images of which are numbered from 1
pub record Undone (on : List ℕ) (order : ℕ) (seen : List (List ℕ)) : Type 0 where
  -- "It undoes the numbering": for an image's number the answer is the image's sequence
  pub undoes : (n : ℕ) (s : List ℕ) → Image seen n s → sequence_answer (length on) order on n ≡ found s
  -- "numbering undoes it": the answer's sequence is that of the image with the number asked for, and of no other
  pub undone : (m n : ℕ) (s : List ℕ) → sequence_answer (length on) order on n ≡ found s → Image seen m s ↔ (m ≡ n)
  -- a number that no image has is refused
  pub none : (n : ℕ) → ((s : List ℕ) → Image seen n s → ⊥) → sequence_answer (length on) order on n ≡ refused

-- THE LAW (`numbering_undone` of proofs/Answering): in every room, for whatever list is what document 01 says is visited
abbrev pub NumberingUndone : Type 0
NumberingUndone = (on : List ℕ) (order : ℕ) → Room on order → (seen : List (List ℕ)) → IsVisited on order seen → Undone on order seen
