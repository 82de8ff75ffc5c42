-- A plane's row from the rows of patches, and what the code's contracts cite.
use Rattle.std.specs.Prelude.{◌≡◌, true, false, cond, ℕ, zero, suc, ◌+◌, ◌<◌, ◌≤◌, eqb, length, get_or, Float, List, [], ◌∷◌}
use mathlib.Core.List.{foldl}
use Rattle.std.specs.Float.{binary32}
use Rattle.std.specs.Float.Ieee.{add}
use Rattle.float.specs.Literals.{zero32}
use Rattle.order.specs.Sort.{Below}
use Rattle.order.specs.Runs.{head_or}
use Rattle.vector.specs.declared.Vec3.{Vec3}
use Rattle.vector.specs.Vector.{vec, normalize3_of}
use Rattle.geometry.specs.declared.Aabb.{Aabb}
use Rattle.geometry.specs.declared.Triangle.{Triangle}
use Rattle.geometry.specs.Aabb.{union_of}
use Rattle.planes_patches.specs.Normal.{canonical_of}
use Rattle.planes_patches.specs.Rows.{none_of, row_in}
use Rattle.planes_patches.specs.declared.PatchRow.{PatchRow}
use Rattle.planes_links.specs.Words.{has, part_of, RowBounds}
use Rattle.mirror.specs.declared.PlaneRow.{PlaneRow}
use Rattle.planes_fit.specs.Fit.{weighted_of, mean_offset_of, spread_of}
use Rattle.planes_fit.specs.declared.Sums.{Sums}

-- ---- groups

-- group g
abbrev pub group_in : List ℕ → List ℕ → ℕ → List ℕ
group_in queue starts g = part_of queue (get_or starts g 0) (get_or starts (g + 1) 0)

-- no number stands twice
unfoldable pub PatchesOnce : List ℕ → Type 0
PatchesOnce [] = Unit {0}
PatchesOnce (x ∷ xs) = (has x xs ≡ false) × PatchesOnce xs

-- ng groups of patches below np, none empty, and no patch stands twice
pub record Grouped (queue starts : List ℕ) (np ng : ℕ) : Type 0 where
  pub long : ng < length starts
  pub rise : (g : ℕ) → g < ng → get_or starts g 0 < get_or starts (g + 1) 0
  pub ends : (g : ℕ) → g ≤ ng → get_or starts g 0 ≤ length queue
  pub below : (g : ℕ) → g < ng → Below np (group_in queue starts g)
  pub once : (g : ℕ) → g < ng → PatchesOnce (group_in queue starts g)
  pub apart : (g h p : ℕ) → g < ng → h < g → has p (group_in queue starts g) ≡ true → has p (group_in queue starts h) ≡ false

-- the number before one, 0 having none
unfoldable pub before_of : ℕ → ℕ
before_of zero = none_of
before_of (suc g) = g

-- ---- one plane

-- the sums of no patch, with a box to begin with
abbrev pub no_sums : Aabb → Sums
no_sums b = record { sum = vec zero32 zero32 zero32; area = zero32; aabb = b }

-- `nsum`, `area` and `aabb` with one patch more
unfoldable pub summed_of : Vec3 → Sums → PatchRow → Sums
summed_of seed s p =
    record { sum = weighted_of seed s.sum p.normal p.area; area = add binary32 s.area p.area; aabb = union_of s.aabb p.aabb }

-- the row of a patch alone, with `count` triangles from `first` on
unfoldable pub alone_row_of : PatchRow → ℕ → ℕ → PlaneRow
alone_row_of p first count =
    record { normal = p.normal; offset = p.offset; aabb = p.aabb; spread = zero32; area = p.area; first = first; count = count; edge = 0; edges = 0; fitted = false }

-- the row of several patches
unfoldable pub fitted_row_of : (ℕ → Triangle) → Sums → List ℕ → ℕ → PlaneRow
fitted_row_of tri s is first =
    let n = canonical_of (normalize3_of s.sum) in
    let d = mean_offset_of tri n is in
    record { normal = n; offset = d; aabb = s.aabb; spread = spread_of tri n d is; area = s.area; first = first; count = length is; edge = 0; edges = 0; fitted = true }

-- the row of a group
unfoldable pub plane_row_of : (ℕ → Triangle) → List Float → List ℕ → List ℕ → ℕ → PlaneRow
plane_row_of tri rows group is first =
    let p = row_in rows (head_or 0 group) in
    cond (eqb (length group) 1) (alone_row_of p first (length is))
    (fitted_row_of tri (foldl (λ s q. summed_of p.normal s (row_in rows q)) (no_sums p.aabb) group) is first)

-- the row of group g, whose triangles stand in `members` as groups stand in the queue
unfoldable pub plane_row_in : (ℕ → Triangle) → List Float → List ℕ → List ℕ → List ℕ → List ℕ → ℕ → PlaneRow
plane_row_in tri rows queue starts members mstarts g = plane_row_of tri rows (group_in queue starts g) (group_in members mstarts g) (get_or mstarts g 0)

-- ng runs of triangles below n
pub record Runs (n ng : ℕ) (members mstarts : List ℕ) : Type 0 where
  pub fenced : RowBounds ng members mstarts
  pub long : ng < length mstarts
  pub below : (g : ℕ) → g < ng → Below n (group_in members mstarts g)

-- ---- storing

-- what stands of a row as floats, and as words
abbrev pub floats_of_row : PlaneRow → List Float
floats_of_row r =
    r.normal.x ∷ r.normal.y ∷ r.normal.z ∷ r.offset ∷ r.aabb.min.x ∷ r.aabb.min.y ∷ r.aabb.min.z ∷ r.aabb.max.x ∷ r.aabb.max.y ∷ r.aabb.max.z ∷ r.spread ∷ r.area ∷ []

abbrev pub words_of : PlaneRow → List ℕ
words_of r = r.first ∷ r.count ∷ r.edge ∷ r.edges ∷ cond r.fitted 1 0 ∷ []

-- its numbers are words
pub record Small (r : PlaneRow) : Type 0 where
  pub first_small : r.first < 4294967296
  pub count_small : r.count < 4294967296
  pub edge_small : r.edge < 4294967296
  pub edges_small : r.edges < 4294967296
