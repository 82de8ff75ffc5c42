-- The floor of document 01's case A, computed: its triangles, what is skipped, placings, and corners at 10,000 and just above.
use mathlib.Core.Path.{◌≡◌, refl}
use mathlib.Core.Bool.{true, false}
use mathlib.Core.List.{List, [], ◌∷◌, ◌++◌}
use Prim.Native.Nat.{ℕ}
use lib.Ieee.{Float, binary32, add, sub, mul, div, neg, lt, le, eq, of_bits, round}
use lib.ListN.{length, get_or}
use Rattle.vector.specs.Vector.{vec, sub3_of, cross3_of, dot3_of, length3_of}
use Rattle.vector.specs.Transform.{transform_point_of, row_of}
use Rattle.float.specs.Compare.{abs_of, is_finite}
use Rattle.float.specs.Sqrt.{sqrt_of, root_of, isqrt}
use Rattle.geometry.specs.declared.Triangle.{Triangle}
use Rattle.geometry.specs.Triangle.{cross_of, is_degenerate_of, normal_of, triangle_of_corners}
use Rattle.scene.specs.Scene.{Scene, scene, headers, cut}
use Rattle.placing.specs.Corners.{triples, corner_of, corners_in, corners_of, corners_all, triangles, triangles_of, far_of, is_far_corner, has_far_corner, any_far, up_to_far, refusal6, placings}
use Rattle.placing.specs.TwoPasses.{mesh_triples, scene_triples, test_pass, placings_for}

abbrev f : ℕ → Float
f b = of_bits binary32 b

abbrev identity : List Float
identity = (f 0x3f80_0000 ∷ f 0x0000_0000 ∷ f 0x0000_0000 ∷ f 0x0000_0000 ∷ f 0x0000_0000 ∷ f 0x3f80_0000 ∷ f 0x0000_0000 ∷ f 0x0000_0000 ∷ f 0x0000_0000 ∷ f 0x0000_0000 ∷ f 0x3f80_0000 ∷ f 0x0000_0000 ∷ f 0x0000_0000 ∷ f 0x0000_0000 ∷ f 0x0000_0000 ∷ f 0x3f80_0000 ∷ [])

abbrev points : List Float
points = (f 0xc080_0000 ∷ f 0x0000_0000 ∷ f 0xc080_0000 ∷ f 0x4080_0000 ∷ f 0x0000_0000 ∷ f 0xc080_0000 ∷ f 0x4080_0000 ∷ f 0x0000_0000 ∷ f 0x4080_0000 ∷ f 0xc080_0000 ∷ f 0x0000_0000 ∷ f 0x4080_0000 ∷ [])

-- two triangles, and what is skipped: one with an index out of range, a degenerate one, a trailing part
abbrev floor : Scene
floor = scene (4 ∷ 14 ∷ 0 ∷ []) identity points (0 ∷ 1 ∷ 2 ∷ 0 ∷ 2 ∷ 3 ∷ 0 ∷ 1 ∷ 4 ∷ 0 ∷ 1 ∷ 1 ∷ 3 ∷ 2 ∷ []) [] 1

two : length (triangles floor) ≡ 2
unfolding headers cut triples corners_in corners_of corners_all corner_of transform_point_of row_of triangles_of triangle_of_corners is_degenerate_of length3_of cross_of cross3_of sub3_of dot3_of sqrt_of root_of isqrt round of_bits add sub mul lt
two = refl

nine : placings floor ≡ 9
unfolding headers cut triples corners_in corners_of corners_all corner_of transform_point_of row_of up_to_far has_far_corner is_far_corner far_of is_finite abs_of of_bits add sub mul lt le eq neg
nine = refl

near : refusal6 floor ≡ false
unfolding headers cut triples corners_in corners_of corners_all corner_of transform_point_of row_of any_far has_far_corner is_far_corner far_of is_finite abs_of of_bits add sub mul lt le eq neg
near = refl

-- the first one's normal points down
down : (d : Triangle) → (get_or (triangles floor) 0 d).normal ≡ vec (f 0) (f 0xbf80_0000) (f 0)
unfolding headers cut triples corners_in corners_of corners_all corner_of transform_point_of row_of triangles_of triangle_of_corners normal_of is_degenerate_of length3_of cross_of cross3_of sub3_of dot3_of sqrt_of root_of isqrt round of_bits add sub mul div lt
down d = refl

-- moved by 9,996 along x, the corners lie at 9,992 and 10,000 and are not far; by 9,997 the first triple is
abbrev moved : ℕ → Scene
moved x = scene (4 ∷ 6 ∷ 0 ∷ []) (f 0x3f80_0000 ∷ f 0 ∷ f 0 ∷ f 0 ∷ f 0 ∷ f 0x3f80_0000 ∷ f 0 ∷ f 0 ∷ f 0 ∷ f 0 ∷ f 0x3f80_0000 ∷ f 0 ∷ f x ∷ f 0 ∷ f 0 ∷ f 0x3f80_0000 ∷ []) points (0 ∷ 1 ∷ 2 ∷ 0 ∷ 2 ∷ 3 ∷ []) [] 1

just : refusal6 (moved 0x461c_3000) ≡ false
unfolding headers cut triples corners_in corners_of corners_all corner_of transform_point_of row_of any_far has_far_corner is_far_corner far_of is_finite abs_of of_bits add sub mul lt le eq neg
just = refl

over : refusal6 (moved 0x461c_3400) ≡ true
unfolding headers cut triples corners_in corners_of corners_all corner_of transform_point_of row_of any_far has_far_corner is_far_corner far_of is_finite abs_of of_bits add sub mul lt le eq neg
over = refl

first_stops : placings (moved 0x461c_3400) ≡ 3
unfolding headers cut triples corners_in corners_of corners_all corner_of transform_point_of row_of up_to_far has_far_corner is_far_corner far_of is_finite abs_of of_bits add sub mul lt le eq neg
first_stops = refl

-- a near triple, one with an index out of range, one with a far corner, a near one: the testing pass refuses, and six corners were placed
abbrev late : Scene
late = scene (5 ∷ 12 ∷ 0 ∷ []) identity (points ++ f 0x461c_4400 ∷ f 0 ∷ f 0 ∷ []) (0 ∷ 1 ∷ 2 ∷ 0 ∷ 1 ∷ 9 ∷ 0 ∷ 1 ∷ 4 ∷ 0 ∷ 2 ∷ 3 ∷ []) [] 1

late_refused : test_pass (scene_triples late) ≡ true
unfolding headers cut triples mesh_triples test_pass corner_of transform_point_of row_of has_far_corner is_far_corner far_of is_finite abs_of of_bits add sub mul lt le eq neg
late_refused = refl

late_placings : placings_for (scene_triples late) ≡ 6
unfolding headers cut triples mesh_triples placings_for corner_of transform_point_of row_of has_far_corner is_far_corner far_of is_finite abs_of of_bits add sub mul lt le eq neg
late_placings = refl
