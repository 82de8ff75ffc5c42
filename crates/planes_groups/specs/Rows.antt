-- Groups in areas: the patches of all groups one after another, and where each group starts. Beside that, what the code's contracts cite.
use Rattle.std.specs.Prelude.{◌≡◌, Bool, not, ◌&&◌, List, ◌++◌, map, ℕ, ◌+◌, ◌*◌, ◌<◌, ◌≤◌, eqb, length, get_or, take, Float}
use Rattle.std.specs.Float.{nan}
use Rattle.order.specs.Sort.{Below}
use Rattle.order.specs.Runs.{head_or, up_to}
use Rattle.columns.specs.Columns.{triangle_at_of}
use Rattle.planes_patches.specs.Lists.{filter_by, all_by}
use Rattle.planes_patches.specs.Triangles.{corners_of}
use Rattle.mirror.specs.Rows.{vec_of_floats}
use Rattle.planes_patches.specs.Rows.{patch_floats}
use Rattle.planes_links.specs.Words.{part_of, row_in, RowBounds}
use Rattle.planes_groups.specs.Groups.{key_for_falling, is_tilted_from, lies_near, grown_of}

-- group g stands in the queue from starts[g] to starts[g + 1]
unfoldable pub groups_in : List ℕ → List ℕ → ℕ → List (List ℕ)
groups_in queue starts ng = map (λ g. part_of queue (get_or starts g 0) (get_or starts (g + 1) 0)) (up_to ng)

-- each group ends where the next one starts, and their numbers are those of patches
pub record Grouped (np ng : ℕ) (queue starts : List ℕ) : Type 0 where
  pub rise : (g : ℕ) → g < ng → get_or starts g 0 ≤ get_or starts (g + 1) 0
  pub ends : (g : ℕ) → g ≤ ng → get_or starts g 0 ≤ np
  pub below : Below np (take (get_or starts ng 0) queue)

-- ---- what the code reads

-- rows of numbers below a bound
pub record Table (rows bound : ℕ) (sorted starts : List ℕ) : Type 0 where
  pub bounds : RowBounds rows sorted starts
  pub long : rows < length starts
  pub below : (r : ℕ) → r < rows → Below bound (row_in sorted starts r)

-- the key of patch p as a seed
abbrev pub seed_key_in : List Float → List ℕ → List ℕ → ℕ → ℕ
seed_key_in rows sorted starts p = key_for_falling (get_or rows (patch_floats * p + 4) nan) (head_or 0 (row_in sorted starts p))

-- ---- growing

-- `takes` of two patches in areas
unfoldable pub takes_in : List Float → List ℕ → ℕ → List Float → List ℕ → List ℕ → Float → Float → ℕ → ℕ → Bool
takes_in area handles n rows sorted starts least most a b =
    is_tilted_from least (vec_of_floats rows (patch_floats * a)) (vec_of_floats rows (patch_floats * b))
    && all_by (λ i. all_by (lies_near (vec_of_floats rows (patch_floats * a)) (get_or rows (patch_floats * a + 3) nan) most) (corners_of (triangle_at_of area handles n i))) (row_in sorted starts b)

-- a patch is free where `assigned` has 0
abbrev pub is_free_at : List ℕ → ℕ → Bool
is_free_at assigned q = eqb (get_or assigned q 0) 0

-- the patches that are still free
unfoldable pub free_of : ℕ → List ℕ → List ℕ
free_of np assigned = filter_by (is_free_at assigned) (up_to np)

-- the first `tail` of the queue are the patches that are not free
pub record Queue (np : ℕ) (assigned queue : List ℕ) (tail : ℕ) : Type 0 where
  pub column : np ≤ length assigned
  pub room : np ≤ length queue
  pub total : tail + length (free_of np assigned) ≡ np
  pub below : Below np (take tail queue)

-- from a queue and a column, a row of patches adj: those of the free ones that fit follow in the queue, and the others stay free
pub record LetIn (np : ℕ) (fit adj : ℕ → Bool) (assigned queue : List ℕ) (tail : ℕ) (assigned2 queue2 : List ℕ) (tail2 : ℕ) : Type 0 where
  pub added : take tail2 queue2 ≡ take tail queue ++ filter_by (λ q. adj q && fit q) (free_of np assigned)
  pub left : free_of np assigned2 ≡ filter_by (λ q. not (adj q && fit q)) (free_of np assigned)

-- the group that grows from `members`, the end of the queue, follows what stands before them
pub record Grown (np : ℕ) (adj : ℕ → ℕ → Bool) (fit : ℕ → Bool) (before members free assigned2 queue2 : List ℕ) (tail2 : ℕ) : Type 0 where
  pub group : take tail2 queue2 ≡ before ++ (grown_of np adj fit members free).0
  pub left : free_of np assigned2 ≡ (grown_of np adj fit members free).1

-- the rows are those of a relation
abbrev pub RowsOf : ℕ → List ℕ → List ℕ → (ℕ → ℕ → Bool) → Type 0
RowsOf np sorted starts adj = (p : ℕ) → p < np → row_in sorted starts p ≡ filter_by (adj p) (up_to np)
