-- Document 01, "it prints a header with the total, then number and sequence": the text, and the pieces in which it is written.
use Rattle.std.specs.Prelude.{ℕ, zero, suc, ◌+◌, ◌-◌, ◌*◌, ◌/◌, ◌%◌, ◌≤◌, ◌<◌, min, ◌≡◌, cond, ◌⊎◌, List, [], ◌∷◌, ◌++◌, length, get_or, take, drop, ltb}
use Rattle.std.proofs.lemmas.List.Edits.{sets}
use Rattle.sequences.specs.Allowed.{most_order}
use Rattle.sequences.specs.Run.{per_record}
use Rattle.listing.specs.declared.Chunk.{Chunk}

-- the most digits of a number of 64 bits, and the most bytes of a header and of a line
abbrev pub most_digits : ℕ
most_digits = 20

abbrev pub most_header : ℕ
most_header = 8 + most_digits

abbrev pub most_line : ℕ
most_line = most_digits + most_order * (1 + most_digits) + 2

-- n in decimal, of at most k digits: the last digit stands behind the others
unfoldable pub digits_of : ℕ → ℕ → List ℕ
digits_of zero n = []
digits_of (suc k) n = cond (ltb n 10) [] (digits_of k (n / 10)) ++ (48 + n % 10) ∷ []

-- n in decimal
abbrev pub decimal_of : ℕ → List ℕ
decimal_of n = digits_of most_digits n

-- each plane after a space
unfoldable pub planes_of : List ℕ → List ℕ
planes_of [] = []
planes_of (p ∷ q) = 32 ∷ decimal_of p ++ planes_of q

-- "number and sequence", as in `2: 0 1`
unfoldable pub line_of : ℕ → List ℕ → List ℕ
line_of number q = decimal_of number ++ 58 ∷ planes_of q ++ 10 ∷ []

-- "a header with the total", as in `images 6`
unfoldable pub header_of : ℕ → List ℕ
header_of total = 105 ∷ 109 ∷ 97 ∷ 103 ∷ 101 ∷ 115 ∷ 32 ∷ decimal_of total ++ 10 ∷ []

-- "Bad input prints `refused`"
abbrev pub refused_text : List ℕ
refused_text = 114 ∷ 101 ∷ 102 ∷ 117 ∷ 115 ∷ 101 ∷ 100 ∷ 10 ∷ []

-- the lines of images, the first of which has the number n
unfoldable pub lines_from : ℕ → List (List ℕ) → List ℕ
lines_from n [] = []
lines_from n (q ∷ qs) = line_of n q ++ lines_from (suc n) qs

-- the planes of the record at the front of an area: so many as its last byte says, and at most eight
abbrev pub planes_in : List ℕ → List ℕ
planes_in area = take (min (get_or area most_order 0) most_order) area

-- the planes of record k of an area
unfoldable pub planes_at : List ℕ → ℕ → List ℕ
planes_at area k = planes_in (drop (k * per_record) area)

-- the lines of n images from record k on, which has the number k + 1
unfoldable pub lines_of : List ℕ → ℕ → ℕ → List ℕ
lines_of area k zero = []
lines_of area k (suc n) = line_of (k + 1) (planes_at area k) ++ lines_of area (suc k) n

-- bs was written into a list from place `at` on, up to place r; the rest of the list is as it was
pub record Wrote (bs before : List ℕ) (at : ℕ) (after : List ℕ) (r : ℕ) : Type 0 where
  pub there : after ≡ sets before at bs
  pub ends : r ≡ at + length bs

-- where a chunk of lines ends that begins at record `from`: it has every image up to the total whose record is in an area of r bytes,
-- or as many as surely have room in o bytes
unfoldable pub end_of_chunk : ℕ → ℕ → ℕ → ℕ → ℕ
end_of_chunk total from r o = from + min (min total (r / per_record) - from) (o / most_line)

-- a chunk: the lines from record `from` on stand at the front of the output, and the rest of it is as it was
pub record Chunked (records : List ℕ) (total from : ℕ) (out : List ℕ) (r : Chunk) (out' : List ℕ) : Type 0 where
  pub next : r.next ≡ end_of_chunk total from (length records) (length out)
  pub len : r.len ≡ length (lines_of records from (r.next - from))
  pub text : out' ≡ lines_of records from (r.next - from) ++ drop r.len out

-- a turn of a loop that prints: the output before it, what `lines` answers, and the output after it
pub record Turn : Type 0 where
  pub before : List ℕ
  pub chunk : Chunk
  pub after : List ℕ

-- the turns from record `from` on, as the program takes them: each has room for a line, and the last finds no line left
abbrev pub Turns : List ℕ → ℕ → ℕ → List Turn → Type 0
Turns records total from [] = ⊥
Turns records total from (t ∷ ts) =
    Chunked records total from t.before t.chunk t.after
    × (most_line ≤ length t.before)
    × (((t.chunk.next ≤ from) × (ts ≡ [])) ⊎ ((from < t.chunk.next) × Turns records total t.chunk.next ts))

-- what they print: the chunk of each at the front of its output
abbrev pub written : List Turn → List ℕ
written [] = []
written (t ∷ ts) = take t.chunk.len t.after ++ written ts
