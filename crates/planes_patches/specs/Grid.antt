-- The grid of normals in areas: the cell of each patch, and a circular list of the patches whose cells share a bucket, from the oldest to the
-- newest, the tail. A link is 0 where there is no patch, else a patch's number plus one.
use Rattle.std.specs.Prelude.{ℕ, zero, suc, ◌+◌, ◌*◌, ◌%◌, ◌<◌, ◌≤◌, ◌≡◌, Bool, cond, ◌&&◌, eqb, length, get_or, set, Float, List, []}
use mathlib.Core.List.{flat_map}
use Rattle.vector.specs.declared.Vec3.{Vec3}
use Rattle.geometry.specs.declared.Triangle.{Triangle}
use Rattle.order.specs.Runs.{first_by, up_to}
use Rattle.planes_faces.specs.Key.{Key, same_key}
use Rattle.planes_patches.specs.Lists.{filter_by}
use Rattle.planes_patches.specs.Normal.{canonical_of, offset_of}
use Rattle.planes_patches.specs.Patches.{cell_of, lies_in_plane}
use Rattle.mirror.specs.Rows.{vec_of_floats}
use Rattle.planes_patches.specs.Rows.{patch_floats, patch_in, Numbered}
use Rattle.planes_patches.specs.declared.PlaneKey.{PlaneKey}

-- a cell by its parts
abbrev pub key : ℕ → ℕ → ℕ → Key
key a b c = record { x = a; y = b; z = c }

-- what the search for a triangle's patch needs of it: canonical normal, offset and cell
unfoldable pub plane_key_of : Triangle → PlaneKey
plane_key_of t =
    let n = canonical_of t.normal in
    record { normal = n; offset = offset_of t; x = (cell_of n).x; y = (cell_of n).y; z = (cell_of n).z }

-- how many buckets there are
abbrev pub bucket_count : ℕ
bucket_count = 4096

-- the bucket of a cell
unfoldable pub bucket_of : Key → ℕ
bucket_of c = c.x % 16 * 256 + c.y % 16 * 16 + c.z % 16

-- the cell stored for patch p
unfoldable pub cell_at : List ℕ → ℕ → Key
cell_at cells p = key (get_or cells (3 * p) 0) (get_or cells (3 * p + 1) 0) (get_or cells (3 * p + 2) 0)

-- whether patch p is in bucket h
abbrev pub in_bucket : List ℕ → ℕ → ℕ → Bool
in_bucket cells h p = eqb (bucket_of (cell_at cells p)) h

-- the link to the newest patch below n that passes
unfoldable pub newest : (ℕ → Bool) → ℕ → ℕ
newest p zero = 0
newest p (suc n) = cond (p n) (suc n) (newest p n)

-- `next` with patch p behind the tail that a link leads to, or alone
unfoldable pub linked_of : List ℕ → ℕ → ℕ → List ℕ
linked_of next p zero = set next p p
linked_of next p (suc tail) = set (set next p (get_or next tail 0)) tail p

-- whether patch p lies in the plane of a normal and an offset
unfoldable pub coplanar_at : List Float → Vec3 → Float → ℕ → Bool
coplanar_at rows n d p = lies_in_plane (patch_in rows [] 0 p) n d

-- and in the cell c, by the stored cells
unfoldable pub match_at : List Float → List ℕ → Key → Vec3 → Float → ℕ → Bool
match_at rows cells c n d p = same_key (cell_at cells p) c && coplanar_at rows n d p

-- the cell of the normal of patch p
unfoldable pub cell_in : List Float → ℕ → Key
cell_in rows p = cell_of (vec_of_floats rows (patch_floats * p))

-- the first match in these cells, else np
unfoldable pub first_among : List Float → ℕ → Vec3 → Float → List Key → ℕ
first_among rows np n d cs = first_by (coplanar_at rows n d) np (flat_map (λ c. filter_by (λ i. same_key (cell_in rows i) c) (up_to np)) cs)

-- the areas hold the grid of np patches
pub record Grid (rows : List Float) (cells heads next : List ℕ) (np : ℕ) : Type 0 where
  pub room_rows : patch_floats * np ≤ length rows
  pub room_cells : 3 * np ≤ length cells
  pub room_next : np ≤ length next
  pub buckets : length heads ≡ bucket_count
  pub cells_are : (p : ℕ) → p < np → cell_at cells p ≡ cell_in rows p
  pub heads_are : (h : ℕ) → h < bucket_count → get_or heads h 0 ≡ newest (in_bucket cells h) np
  -- `next` leads from a patch to the one made after it in the bucket
  pub next_are : (p q : ℕ) → q < np → newest (in_bucket cells (bucket_of (cell_at cells q))) q ≡ suc p → get_or next p 0 ≡ q
  -- and from the tail round to the oldest
  pub round_are : (p q : ℕ) → q < np → newest (in_bucket cells (bucket_of (cell_at cells q))) q ≡ 0 → newest (in_bucket cells (bucket_of (cell_at cells q))) np ≡ suc p → get_or next p 0 ≡ q

-- the areas hold the np patches of the first t triangles
pub record Standing (rows : List Float) (of cells heads next : List ℕ) (t np : ℕ) : Type 0 where
  pub grid : Grid rows cells heads next np
  pub few : np ≤ t
  pub numbered : Numbered of t np
