-- The placed corners of a scene's triples, its triangles (`triangles_from_scene`), and refusal 6, over lists of meshes.
use Rattle.std.specs.Prelude.{ℕ, suc, ◌+◌, ◌*◌, ltb, Float, length, get_or, Bool, false, cond, not, ◌&&◌, ◌||◌, List, [], ◌∷◌, ◌++◌}
use Rattle.std.specs.Float.{nan, binary32}
use Rattle.std.specs.Float.Ieee.{lt, of_bits}
use Rattle.vector.specs.declared.Vec3.{Vec3}
use Rattle.vector.specs.Vector.{vec}
use Rattle.vector.specs.Transform.{transform_point_of}
use Rattle.float.specs.Compare.{abs_of, is_finite}
use Rattle.geometry.specs.declared.Triangle.{Triangle}
use Rattle.geometry.specs.Triangle.{is_degenerate_of, triangle_of_corners}
use Rattle.scene.specs.Scene.{Scene, Mesh, meshes_of}

pub record Triple : Type 0 where
  pub i : ℕ
  pub j : ℕ
  pub k : ℕ

abbrev pub triple : ℕ → ℕ → ℕ → Triple
triple x y z = record { i = x; j = y; k = z }

-- the whole triples of a mesh's indices; a trailing part is skipped
unfoldable pub triples : List ℕ → List Triple
triples [] = []
triples (i ∷ []) = []
triples (i ∷ j ∷ []) = []
triples (i ∷ j ∷ k ∷ is) = triple i j k ∷ triples is

-- the whole triples of meshes (refusal 4 counts them by the headers: `whole_triples_lem` of proofs/Passes.antt says that it is the same)
unfoldable pub whole_triples : List Mesh → ℕ
whole_triples [] = 0
whole_triples (m ∷ ms) = length (triples m.indices) + whole_triples ms

-- vertex i of a mesh, placed
unfoldable pub corner_of : List Float → List Float → ℕ → Vec3
corner_of ps m i = transform_point_of (vec (get_or ps (3 * i) nan) (get_or ps (3 * i + 1) nan) (get_or ps (3 * i + 2) nan)) m 0

-- the placed corners of a triple, with the mesh's handle
pub record Corners : Type 0 where
  pub a : Vec3
  pub b : Vec3
  pub c : Vec3
  pub handle : ℕ

abbrev pub corners3 : Vec3 → Vec3 → Vec3 → ℕ → Corners
corners3 p q r h = record { a = p; b = q; c = r; handle = h }

abbrev pub in_range : ℕ → Triple → Bool
in_range v t = ltb t.i v && (ltb t.j v && ltb t.k v)

-- the placed corners of one triple of a mesh with v vertices, positions ps, transform m and handle h; a triple with an index out of range is skipped
unfoldable pub corners_in : ℕ → List Float → List Float → ℕ → Triple → List Corners
corners_in v ps m h t = cond (in_range v t) (corners3 (corner_of ps m t.i) (corner_of ps m t.j) (corner_of ps m t.k) h ∷ []) []

unfoldable pub corners_of : ℕ → List Float → List Float → ℕ → List Triple → List Corners
corners_of v ps m h [] = []
corners_of v ps m h (t ∷ ts) = corners_in v ps m h t ++ corners_of v ps m h ts

-- mesh after mesh
unfoldable pub corners_all : List Mesh → List Corners
corners_all [] = []
corners_all (m ∷ ms) = corners_of m.vertices m.positions m.transform m.handle (triples m.indices) ++ corners_all ms

abbrev pub corners : Scene → List Corners
corners s = corners_all (meshes_of s)

-- `triangles_from_scene`: a degenerate triangle is skipped
unfoldable pub triangles_of : List Corners → List Triangle
triangles_of [] = []
triangles_of (q ∷ qs) = cond (is_degenerate_of q.a q.b q.c) (triangles_of qs) (triangle_of_corners q.a q.b q.c q.handle ∷ triangles_of qs)

abbrev pub triangles : Scene → List Triangle
triangles s = triangles_of (corners s)

-- 10,000
abbrev pub farthest : Float
farthest = of_bits binary32 0x461c_4000

-- 6. a placed corner of a triple whose three indices are in range is not finite or exceeds 10,000 in absolute value
unfoldable pub far_of : Float → Bool
far_of x = not (is_finite x) || lt farthest (abs_of x)

unfoldable pub is_far_corner : Vec3 → Bool
is_far_corner v = far_of v.x || (far_of v.y || far_of v.z)

unfoldable pub has_far_corner : Vec3 → Vec3 → Vec3 → Bool
has_far_corner a b c = is_far_corner a || (is_far_corner b || is_far_corner c)

abbrev pub far_in : Corners → Bool
far_in q = has_far_corner q.a q.b q.c

unfoldable pub any_far : List Corners → Bool
any_far [] = false
any_far (q ∷ qs) = far_in q || any_far qs

abbrev pub refusal6 : Scene → Bool
refusal6 s = any_far (corners s)

-- the triples placed: up to and with the first that refusal 6 meets
unfoldable pub up_to_far : List Corners → ℕ
up_to_far [] = 0
up_to_far (q ∷ qs) = suc (cond (far_in q) 0 (up_to_far qs))

-- three placings for each
abbrev pub placings : Scene → ℕ
placings s = 3 * up_to_far (corners s)
