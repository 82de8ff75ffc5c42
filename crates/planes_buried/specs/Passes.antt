-- What the passes over triangles and patches store.
use Rattle.std.specs.Prelude.{ℕ, Bool, cond, not, List, eqb, length, get_or, Float}
use Rattle.std.specs.Float.{nan}
use Rattle.geometry.specs.declared.Triangle.{Triangle}
use Rattle.order.specs.Runs.{up_to}
use Rattle.planes_patches.specs.Lists.{filter_by}
use Rattle.planes_patches.specs.Rows.{none_of}
use Rattle.planes_buried.specs.Buried.{larger_of}

-- the largest area of patch p so far and its triangle, which is none before the first
unfoldable pub best_at : List Float → List ℕ → ℕ → Float × ℕ
best_at areas largest p = (get_or areas p nan, get_or largest p 0)

-- the best with triangle i more
unfoldable pub best_of : List Triangle → Float × ℕ → ℕ → Float × ℕ
best_of ts best i = larger_of ts (cond (eqb best.1 none_of) (best.0, i) best) i

-- the triangle of a best, 0 where there is none
unfoldable pub or_zero : ℕ → ℕ
or_zero i = cond (eqb i none_of) 0 i

-- which patches are open, by their flags
unfoldable pub is_open : List ℕ → ℕ → Bool
is_open flags p = not (eqb (get_or flags p 0) 0)

-- the numbers of the open patches below n
unfoldable pub open_to : List ℕ → ℕ → List ℕ
open_to flags n = filter_by (is_open flags) (up_to n)

-- the new number of patch p: how many below it are open, none where it is not open
unfoldable pub number_in : List ℕ → ℕ → ℕ
number_in flags p = cond (is_open flags p) (length (open_to flags p)) none_of

-- the new number of a triangle
unfoldable pub renumbered_of : List ℕ → ℕ → ℕ
renumbered_of numbers p = cond (eqb p none_of) none_of (get_or numbers p 0)
