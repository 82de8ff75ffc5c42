-- The record of a coplanar patch.
use Rattle.std.specs.Prelude.{ℕ, List, [], get_or, Float}
use Rattle.std.specs.Float.{nan}
use Rattle.vector.specs.declared.Vec3.{Vec3}
use Rattle.geometry.specs.declared.Aabb.{Aabb}
use Rattle.planes_faces.specs.Key.{Key}
use Rattle.planes_faces.specs.Faces.{no_key}
use Rattle.planes_patches.specs.Triangles.{no_vec}

-- triangles of one plane: normal and offset are the first one's, and cell is the grid cell of that normal
pub record Patch : Type 0 where
  pub normal : Vec3
  pub offset : Float
  pub area : Float
  pub box : Aabb
  pub tris : List ℕ
  pub cell : Key

abbrev pub no_patch : Patch
no_patch = record { normal = no_vec; offset = nan; area = nan; box = record { min = no_vec; max = no_vec }; tris = []; cell = no_key }

-- `patches[i]`
unfoldable pub patch_at : List Patch → ℕ → Patch
patch_at ps i = get_or ps i no_patch
