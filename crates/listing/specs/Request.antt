-- Document 01, "The program `images` reads three decimals ..": which texts are taken, and what they ask for.
-- A line feed at the end may be there or not; leading zeros may stand; an empty text and all that follows the line are refused.
use Rattle.std.specs.Prelude.{ℕ, suc, ◌+◌, ◌-◌, ◌*◌, ◌^◌, ◌≤◌, ◌≡◌, ◌⊎◌, Bool, true, cond, ◌&&◌, length, get_or, take, Option, Some, None, leb, ltb, eqb, List, [], ◌∷◌, ◌++◌}
use mathlib.Core.List.{foldl}
use Rattle.sequences.specs.Allowed.{most_order}
use Rattle.listing.specs.declared.Request.{Request}

-- "planes (1 to 16)"
abbrev pub most_planes : ℕ
most_planes = 16

-- a longer text is refused, so that a program that has room for one byte more can tell
abbrev pub most_text : ℕ
most_text = 4095

-- a number past every bound, up to which the code works values out
abbrev pub cap : ℕ
cap = 100000

-- `0` to `9`
unfoldable pub is_digit_byte : ℕ → Bool
is_digit_byte b = leb 48 b && leb b 57

-- every one passes the test
unfoldable pub all : (ℕ → Bool) → List ℕ → Bool
all t [] = true
all t (b ∷ l) = t b && all t l

-- a decimal: one digit or more
unfoldable pub is_decimal_text : List ℕ → Bool
is_decimal_text w = leb 1 (length w) && all is_digit_byte w

-- a number with one digit more
abbrev pub push : ℕ → ℕ → ℕ
push n d = n * 10 + (d - 48)

-- the number that digits stand for
unfoldable pub value_of : List ℕ → ℕ
value_of w = foldl push 0 w

-- a byte at the front of the first word
abbrev pub onto : ℕ → List (List ℕ) → List (List ℕ)
onto b [] = (b ∷ []) ∷ []
onto b (w ∷ ws) = (b ∷ w) ∷ ws

-- the words of a line: what stands between its spaces, so that n spaces part n + 1 words, which may be empty
unfoldable pub words : List ℕ → List (List ℕ)
words [] = [] ∷ []
words (b ∷ l) = cond (eqb b 32) ([] ∷ words l) (onto b (words l))

-- "one space"
abbrev pub space : List ℕ
space = 32 ∷ []

-- the place of the first space, or the length
unfoldable pub space_at : List ℕ → ℕ
space_at [] = 0
space_at (b ∷ l) = cond (eqb b 32) 0 (suc (space_at l))

-- "planes (1 to 16), order (1 to 8), and a mask below 2^planes"
unfoldable pub in_range : ℕ → ℕ → ℕ → Bool
in_range planes order mask =
    leb 1 planes && (leb planes most_planes && (leb 1 order && (leb order most_order && ltb mask (2 ^ planes))))

-- a request of three numbers
abbrev pub images_at : ℕ → ℕ → ℕ → Option Request
images_at planes order mask = Some (record { planes = planes; order = order; mask = mask })

-- what three numbers ask for
abbrev pub checked : ℕ → ℕ → ℕ → Option Request
checked planes order mask = cond (in_range planes order mask) (images_at planes order mask) None

-- three words, each a decimal
abbrev pub asked : List (List ℕ) → Option Request
asked [] = None
asked (a ∷ []) = None
asked (a ∷ b ∷ []) = None
asked (a ∷ b ∷ c ∷ []) = cond (is_decimal_text a && (is_decimal_text b && is_decimal_text c)) (checked (value_of a) (value_of b) (value_of c)) None
asked (a ∷ b ∷ c ∷ d ∷ l) = None

-- the length without a line feed at the end
unfoldable pub length_of_line : List ℕ → ℕ
length_of_line text = cond (eqb (get_or text (length text - 1) 0) 10) (length text - 1) (length text)

-- what a text asks for: "on one line with one space between them"
unfoldable pub request_of : List ℕ → Option Request
request_of text = cond (leb (length text) most_text) (asked (words (take (length_of_line text) text))) None

-- the same said of the text as a whole, which `proofs/Accepted.antt` proves to be what `request_of` takes: "three decimals .. on one line with
-- one space between them", and a line feed or nothing behind them
pub record Line (text : List ℕ) (planes order mask : ℕ) : Type 0 where
  pub first : List ℕ
  pub second : List ℕ
  pub third : List ℕ
  pub feed : List ℕ
  pub is : text ≡ first ++ space ++ second ++ space ++ third ++ feed
  pub decimals : (is_decimal_text first ≡ true) × (is_decimal_text second ≡ true) × (is_decimal_text third ≡ true)
  pub end : (feed ≡ []) ⊎ (feed ≡ 10 ∷ [])
  pub values : (value_of first ≡ planes) × (value_of second ≡ order) × (value_of third ≡ mask)

-- such a line, not too long, with its numbers in range
pub record Accepted (text : List ℕ) (planes order mask : ℕ) : Type 0 where
  pub short : length text ≤ most_text
  pub line : Line text planes order mask
  pub range : in_range planes order mask ≡ true
