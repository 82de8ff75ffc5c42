-- Duplicate faces: step 1 of `build_planes`. A triangle is left out where an earlier one has the same three vertices, in any order and
-- winding.
use Rattle.std.specs.Prelude.{ℕ, ◌+◌, ◌*◌, Bool, not, List, map, get_or, Float}
use Rattle.vector.specs.declared.Vec3.{Vec3}
use Rattle.geometry.specs.declared.Triangle.{Triangle}
use Rattle.columns.specs.Columns.{vec_at_of}
use Rattle.order.specs.Runs.{any_by, up_to}
use Rattle.planes_faces.specs.Key.{Key, same_key, vertex_key}
use Rattle.planes_faces.specs.Triples.{any_order}

-- `[vertex_key(t.a), vertex_key(t.b), vertex_key(t.c)]`
pub record Face : Type 0 where
  pub a : Key
  pub b : Key
  pub c : Key

unfoldable pub keys_of : Vec3 → Vec3 → Vec3 → Face
keys_of p q r = record { a = vertex_key p; b = vertex_key q; c = vertex_key r }

unfoldable pub face_of : Triangle → Face
face_of t = keys_of t.a t.b t.c

abbrev pub no_key : Key
no_key = record { x = 0; y = 0; z = 0 }

abbrev pub no_face : Face
no_face = record { a = no_key; b = no_key; c = no_key }

unfoldable pub face_at : List Face → ℕ → Face
face_at fs i = get_or fs i no_face

-- `k.sort()` and the set: the same three keys, in one of the six orders
unfoldable pub same_face : Face → Face → Bool
same_face f g = any_order same_key f.a f.b f.c g.a g.b g.c

-- `keep[ti]`: no earlier face is the same
unfoldable pub is_first : List Face → ℕ → Bool
is_first fs i = not (any_by (λ j. same_face (face_at fs j) (face_at fs i)) (up_to i))

-- ---- the faces of triangles in columns

unfoldable pub face_in : List Float → ℕ → ℕ → Face
face_in area n i = keys_of (vec_at_of area n i) (vec_at_of area n (i + 3 * n)) (vec_at_of area n (i + 6 * n))

unfoldable pub faces_in : List Float → ℕ → List Face
faces_in area n = map (face_in area n) (up_to n)
