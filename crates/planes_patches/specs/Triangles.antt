-- The triangles of a scene by number, and their corners.
use Rattle.std.specs.Prelude.{List, [], ◌∷◌, map, ℕ, get_or, Float}
use Rattle.std.specs.Float.{nan}
use Rattle.vector.specs.declared.Vec3.{Vec3}
use Rattle.vector.specs.Vector.{vec}
use Rattle.geometry.specs.declared.Aabb.{Aabb}
use Rattle.geometry.specs.declared.Triangle.{Triangle}
use Rattle.geometry.specs.Aabb.{from_corners_of}
use Rattle.order.specs.Runs.{up_to}
use Rattle.columns.specs.Columns.{triangle_at_of}

abbrev pub no_vec : Vec3
no_vec = vec nan nan nan

abbrev pub no_triangle : Triangle
no_triangle = record { a = no_vec; b = no_vec; c = no_vec; normal = no_vec; material_handle = 0 }

-- `triangles[i]`
unfoldable pub nth_triangle : List Triangle → ℕ → Triangle
nth_triangle ts i = get_or ts i no_triangle

-- `[t.a, t.b, t.c]`
unfoldable pub corners_of : Triangle → List Vec3
corners_of t = t.a ∷ t.b ∷ t.c ∷ []

-- `t.aabb()`
unfoldable pub box_of : Triangle → Aabb
box_of t = from_corners_of t.a t.b t.c

-- the first m triangles of columns of n floats
unfoldable pub triangles_in : List Float → List ℕ → ℕ → ℕ → List Triangle
triangles_in area handles n m = map (triangle_at_of area handles n) (up_to m)
