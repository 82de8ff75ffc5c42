-- `ReflectPlane`: a mirror plane of the scene, its triangles by number.
use Rattle.std.specs.Prelude.{ℕ, Bool, false, List, [], get_or, Float}
use Rattle.std.specs.Float.{nan}
use Rattle.vector.specs.declared.Vec3.{Vec3}
use Rattle.vector.specs.Vector.{vec}
use Rattle.geometry.specs.declared.Aabb.{Aabb}

-- an edge, in the direction of its triangle
pub record Edge : Type 0 where
  pub start : Vec3
  pub end : Vec3

-- `ReflectPlane`
pub record Plane : Type 0 where
  pub normal : Vec3
  pub offset : Float
  pub area : Float
  pub box : Aabb
  pub tris : List ℕ
  pub border : List Edge
  pub fitted : Bool
  pub spread : Float

abbrev pub no_point : Vec3
no_point = vec nan nan nan

abbrev pub no_plane : Plane
no_plane =
    record { normal = no_point; offset = nan; area = nan; box = record { min = no_point; max = no_point }; tris = []; border = []; fitted = false; spread = nan }

-- `planes[i]`
unfoldable pub nth_plane : List Plane → ℕ → Plane
nth_plane ps i = get_or ps i no_plane
