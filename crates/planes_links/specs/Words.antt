-- A pair of numbers as one word, and a relation as rows: the second numbers of its words, sorted by the first one and rising, with no repeats.
use Rattle.std.specs.Prelude.{◌≡◌, Bool, not, List, [], ◌∷◌, map, ℕ, ◌+◌, ◌-◌, ◌*◌, ◌%◌, ◌<◌, ◌≤◌, eqb, length, get_or, take, drop}
use Rattle.order.specs.Radix.{upper}
use Rattle.order.specs.Runs.{any_by, up_to}
use Rattle.planes_patches.specs.Lists.{keep_if, filter_by}

-- how many triangles, and so patches, a scene with planes has at most (document 01)
abbrev pub most_triangles : ℕ
most_triangles = 4096

-- how many rows a relation has at most, so that a word has 32 bits
abbrev pub most_rows : ℕ
most_rows = 1048575

-- p above q, which is below `most_triangles`
abbrev pub word_of : ℕ → ℕ → ℕ
word_of p q = p * most_triangles + q

-- whether n is in the list
abbrev pub has : ℕ → List ℕ → Bool
has n xs = any_by (eqb n) xs

-- the key by which numbers are sorted
abbrev pub itself : ℕ → ℕ
itself x = x

-- the upper halves of the first k words
unfoldable pub uppers : List ℕ → ℕ → List ℕ
uppers words k = map upper (take k words)

-- what differs from the one before it
unfoldable pub dedup_after : ℕ → List ℕ → List ℕ
dedup_after last [] = []
dedup_after last (x ∷ xs) = keep_if (not (eqb x last)) x (dedup_after x xs)

-- `dedup`
unfoldable pub dedup : List ℕ → List ℕ
dedup [] = []
dedup (x ∷ xs) = x ∷ dedup_after x xs

-- the first i numbers, and no others, are below the bound
pub record Cut (sorted : List ℕ) (i bound : ℕ) : Type 0 where
  pub within : i ≤ length sorted
  pub before : (j : ℕ) → j < i → get_or sorted j 0 < bound
  pub after : (j : ℕ) → i ≤ j → j < length sorted → bound ≤ get_or sorted j 0

-- the second numbers of words
unfoldable pub lows : List ℕ → List ℕ
lows ws = map (λ w. w % most_triangles) ws

-- from one place up to another
abbrev pub part_of : List ℕ → ℕ → ℕ → List ℕ
part_of xs from to = take (to - from) (drop from xs)

-- row r stands from starts[r] to starts[r + 1]
unfoldable pub row_in : List ℕ → List ℕ → ℕ → List ℕ
row_in sorted starts r = lows (part_of sorted (get_or starts r 0) (get_or starts (r + 1) 0))

-- each row ends where the next one starts, inside the list
pub record RowBounds (rows : ℕ) (sorted starts : List ℕ) : Type 0 where
  pub rise : (r : ℕ) → r < rows → get_or starts r 0 ≤ get_or starts (r + 1) 0
  pub ends : (r : ℕ) → r ≤ rows → get_or starts r 0 ≤ length sorted

-- sorted and starts hold the rows of the relation whose pairs the words are
pub record LinkRows (ws : List ℕ) (rows : ℕ) (sorted starts : List ℕ) : Type 0 where
  pub bounds : RowBounds rows sorted starts
  pub are : (r : ℕ) → r < rows → row_in sorted starts r ≡ filter_by (λ q. has (word_of r q) ws) (up_to most_triangles)
