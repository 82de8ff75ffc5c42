-- Document 01, the program `images`: the whole text that it prints, and what `answer` leaves in its areas.
use Rattle.std.specs.Prelude.{ℕ, zero, suc, ◌*◌, ◌/◌, ◌%◌, ◌≡◌, Bool, cond, ◌&&◌, List, [], ◌∷◌, ◌++◌, length, drop, leb, Option, Some, None}
use Rattle.sequences.specs.Allowed.{visited, most}
use Rattle.sequences.specs.Run.{listed, per_record}
use Rattle.listing.specs.Request.{request_of}
use Rattle.listing.specs.Text.{header_of, refused_text, lines_from, most_header}
use Rattle.listing.specs.declared.Request.{Request}
use Rattle.listing.specs.declared.Head.{Head}

-- "a mask .. whose bit p says the source lies on plane p": a byte for each of n planes
unfoldable pub on_bytes : ℕ → ℕ → List ℕ
on_bytes zero mask = []
on_bytes (suc n) mask = mask % 2 ∷ on_bytes n (mask / 2)

-- the images of a request
unfoldable pub images_of : ℕ → ℕ → ℕ → List (List ℕ)
images_of planes order mask = visited (on_bytes planes mask) order

-- those of any request: none where it is refused
abbrev pub images_for : Option Request → List (List ℕ)
images_for None = []
images_for (Some r) = images_of r.planes r.order r.mask

-- the first line
abbrev pub head_for : Option Request → List ℕ
head_for None = refused_text
head_for (Some r) = header_of (length (images_of r.planes r.order r.mask))

-- all that the program prints for a text: "a header with the total, then number and sequence", or `refused`
unfoldable pub printed : List ℕ → List ℕ
printed text = head_for (request_of text) ++ lines_from 1 (images_for (request_of text))

-- `answer` has room for the records of 250,000 images and for a header
abbrev pub room : List ℕ → List ℕ → Bool
room records out = leb (most * per_record) (length records) && leb most_header (length out)

-- an answer, by its two numbers
abbrev pub head_at : ℕ → ℕ → Option Head
head_at total len = Some (record { total = total; len = len })

-- how many images there are, and how long the first line is
unfoldable pub reply_of : List ℕ → List ℕ → List ℕ → Option Head
reply_of text records out =
    cond (room records out) (head_at (length (images_for (request_of text))) (length (head_for (request_of text)))) None

-- the records of the images stand at the front of their area
unfoldable pub records_of : List ℕ → List ℕ → List ℕ → List ℕ
records_of text records out =
    cond (room records out)
    (listed (images_for (request_of text)) ++ drop (length (images_for (request_of text)) * per_record) records)
    records

-- the first line stands at the front of the output
unfoldable pub out_of : List ℕ → List ℕ → List ℕ → List ℕ
out_of text records out = cond (room records out) (head_for (request_of text) ++ drop (length (head_for (request_of text))) out) out

-- what `answer` promises
pub record Answered (text records out : List ℕ) (r : Option Head) (records' out' : List ℕ) : Type 0 where
  pub answer : r ≡ reply_of text records out
  pub area : records' ≡ records_of text records out
  pub head : out' ≡ out_of text records out

-- what it promises of a request that is not refused, where there is room
pub record Listed (planes order mask : ℕ) (records out : List ℕ) (r : Option Head) (records' out' : List ℕ) : Type 0 where
  pub answer :
      r ≡ head_at (length (images_of planes order mask)) (length (header_of (length (images_of planes order mask))))
  pub area :
      records' ≡ listed (images_of planes order mask) ++ drop (length (images_of planes order mask) * per_record) records
  pub head :
      out'
      ≡ header_of (length (images_of planes order mask)) ++ drop (length (header_of (length (images_of planes order mask)))) out
