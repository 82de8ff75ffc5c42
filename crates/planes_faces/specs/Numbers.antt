-- Keys as numbers: what the contracts of the code have in place of keys and maps.
use Rattle.std.specs.Prelude.{ℕ, zero, suc, ◌+◌, ◌*◌, ◌<◌, ◌≡◌, Bool, not, List, eqb, Float, get_or}
use Rattle.vector.specs.declared.Vec3.{Vec3}
use Rattle.columns.specs.Columns.{vec_at_of}
use Rattle.order.specs.Runs.{any_by, up_to}
use Rattle.planes_faces.specs.Key.{Key, same_key}
use Rattle.planes_faces.specs.Triples.{any_order}

-- the key of i in two columns: hi and, below it, lo
abbrev pub key_at : List ℕ → List ℕ → ℕ → ℕ
key_at hi lo i = get_or hi i 0 * 4294967296 + get_or lo i 0

-- the three parts of a key as one number
abbrev pub number_of : Key → ℕ
number_of k = (k.x * 4294967296 + k.y) * 4294967296 + k.z

-- with the key of corner c of triangle i at c * n + i: no earlier triangle has the three keys of triangle i, in any order
unfoldable pub is_new_at : (ℕ → ℕ) → ℕ → ℕ → Bool
is_new_at k n i =
    not (any_by (λ j. any_order eqb (k j) (k (n + j)) (k (2 * n + j)) (k i) (k (n + i)) (k (2 * n + i))) (up_to i))

-- ---- the corners of triangles in columns, by number

-- corner c of triangle i
unfoldable pub corner_in : List Float → ℕ → ℕ → ℕ → Vec3
corner_in area n zero i = vec_at_of area n i
corner_in area n (suc zero) i = vec_at_of area n (i + 3 * n)
corner_in area n (suc (suc c)) i = vec_at_of area n (i + 6 * n)

-- where its number stands
unfoldable pub place_in : ℕ → ℕ → ℕ → ℕ
place_in n zero i = i
place_in n (suc zero) i = n + i
place_in n (suc (suc c)) i = 2 * n + i

-- its number
abbrev pub number_in : List ℕ → ℕ → ℕ → ℕ → ℕ
number_in id n c i = get_or id (place_in n c i) 0

-- the corners of m triangles have equal numbers exactly where they have the same key, and numbers are below 3 n
pub record Numbered (key : Vec3 → Key) (area : List Float) (n m : ℕ) (id : List ℕ) : Type 0 where
  pub same : (c d i j : ℕ) → c < 3 → d < 3 → i < m → j < m → eqb (number_in id n c i) (number_in id n d j) ≡ same_key (key (corner_in area n c i)) (key (corner_in area n d j))
  pub low : (c : ℕ) → c < 3 * n → get_or id c 0 < 3 * n
