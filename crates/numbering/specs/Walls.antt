-- Document 02, Note 2: what `sequence_of` answers.
-- `on` has a byte for each plane: 1 where the source lies on the plane, else 0.
use Rattle.std.specs.Prelude.{ℕ, ◌-◌, Bool, true, cond, ◌&&◌, List, [], ◌∷◌, ◌++◌, length, get_or, replicate, leb, eqb, Result, Ok, Err}
use Rattle.sequences.specs.Allowed.{visited, most_order, most_planes}
use Rattle.sequences.specs.Count.{firsts, images}
use Rattle.refusals.specs.declared.Refusal.{Refusal}
use Rattle.refusals.specs.declared.Refusal.TheVariants.{NoImage}
use Rattle.numbering.specs.declared.Walls.{Walls}

-- "one byte a plane (1 where the source lies on it, else 0)"
unfoldable pub flags : List ℕ → Bool
flags [] = true
flags (b ∷ bs) = leb b 1 && flags bs

-- n is from 1 to m
unfoldable pub is_one_to : ℕ → ℕ → Bool
is_one_to m n = leb 1 n && leb n m

-- what is not turned away: "order outside 1 to 8, planes outside 1 to 256, plane bytes of another count or value, or a number that is 0 or above images"
unfoldable pub takes : ℕ → ℕ → List ℕ → ℕ → Bool
takes planes order on number =
    is_one_to most_order order
    && (is_one_to most_planes planes && (eqb (length on) planes && (flags on && is_one_to (images planes (firsts on) order) number)))

-- the sequence of the image with that number: "an image's number is its place in the order, from 1"
unfoldable pub walls_of : List ℕ → ℕ → ℕ → List ℕ
walls_of on order number = get_or (visited on order) (number - 1) []

-- the planes, and zeros up to eight
abbrev pub padded : List ℕ → List ℕ
padded s = s ++ replicate (most_order - length s) 0

abbrev pub walls_from : List ℕ → Walls
walls_from s = record { len = length s; planes = padded s }

-- an answer with these walls
abbrev pub found : List ℕ → Result Walls Refusal
found s = Ok (walls_from s)

-- "Turned away: 13"
abbrev pub refused : Result Walls Refusal
refused = Err NoImage

-- the answer of `sequence_of`
unfoldable pub sequence_answer : ℕ → ℕ → List ℕ → ℕ → Result Walls Refusal
sequence_answer planes order on number = cond (takes planes order on number) (found (walls_of on order number)) refused

-- ---- an answer in plain numbers, with "zeros after a refusal"

abbrev pub planes_told : Result Walls Refusal → List ℕ
planes_told (Ok w) = w.planes
planes_told (Err r) = replicate most_order 0

abbrev pub length_told : Result Walls Refusal → ℕ
length_told (Ok w) = w.len
length_told (Err r) = 0
