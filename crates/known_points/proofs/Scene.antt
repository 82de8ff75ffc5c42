-- Case A's scene: nothing is refused, and its triangles are two.
use Prim.Native.Nat.{ℕ}
use mathlib.Core.Path.{◌≡◌, refl}
use mathlib.Core.Bool.{true, false}
use mathlib.Core.List.{List, [], ◌∷◌}
use lib.IntN.{pos}
use lib.Ieee.{Float, fin, add, sub, mul, div, neg, lt, le, eq, of_bits, round}
use Rattle.float.specs.Compare.{abs_of, is_finite}
use Rattle.float.specs.Sqrt.{isqrt, root_of, sqrt_of}
use Rattle.vector.specs.declared.Vec3.{Vec3}
use Rattle.vector.specs.Vector.{vec, dot3_of, sub3_of, cross3_of, length3_of}
use Rattle.vector.specs.Transform.{row_of, transform_point_of}
use Rattle.geometry.specs.declared.Triangle.{Triangle}
use Rattle.geometry.specs.Triangle.{cross_of, is_degenerate_of, normal_of, triangle_of_corners}
use Rattle.scene.specs.Limits.{between_of, above_zero_of, counts_of, rates_of, merges_of, model_number_of, model_numbers_of, probe_settings_of, air_number_of, low_air_of, high_air_of, later_settings_of, settings_of}
use Rattle.scene.specs.Scene.{headers, vertex_sum, index_sum, triple_sum, cut}
use Rattle.scene.specs.Areas.{short_in, short_of}
use Rattle.scene.specs.Refusals.{refusal1, refusal2, refusal3, refusal4, refusal5, meshes_are_whole, transforms_are_right, positions_are_right, indices_are_right, materials_are_right, lengths_right_of, has_unknown_handle}
use Rattle.placing.specs.Corners.{triples, corner_of, corners_in, corners_of, corners_all, triangles_of, triangles, far_of, is_far_corner, has_far_corner, any_far, refusal6}
use Rattle.placing.specs.Loading.{first_refusal}
use Rattle.known_points.specs.CaseA.{settings, room, floor, least_lengths}

-- ---- the corners and the triangles

abbrev pub nought : Float
nought = fin false 0 (pos 0)

abbrev four : Float
four = fin false 1 (pos 2)

abbrev minus_four : Float
minus_four = fin true 1 (pos 2)

abbrev pub corner0 : Vec3
corner0 = vec minus_four nought minus_four

abbrev pub corner1 : Vec3
corner1 = vec four nought minus_four

abbrev pub corner2 : Vec3
corner2 = vec four nought four

abbrev pub corner3 : Vec3
corner3 = vec minus_four nought four

abbrev pub triangle : Vec3 → Vec3 → Vec3 → Triangle
triangle p q r = record { a = p; b = q; c = r; normal = vec nought (fin true 1 (pos 0)) nought; material_handle = 0 }

abbrev pub two : List Triangle
two = triangle corner0 corner1 corner2 ∷ triangle corner0 corner2 corner3 ∷ []

pub triangles_are : triangles floor ≡ two
unfolding headers cut triples corner_of transform_point_of row_of corners_in corners_of corners_all triangles_of is_degenerate_of triangle_of_corners normal_of cross_of cross3_of sub3_of length3_of dot3_of sqrt_of root_of isqrt add sub mul div neg lt eq of_bits round
triangles_are = refl

-- ---- the refusals

fine_settings : refusal1 settings room ≡ false
unfolding refusal1 settings_of counts_of rates_of merges_of model_numbers_of model_number_of later_settings_of probe_settings_of low_air_of high_air_of air_number_of between_of above_zero_of is_finite neg le lt eq of_bits round
fine_settings = refl

right_lengths : refusal2 floor ≡ false
unfolding refusal2 lengths_right_of meshes_are_whole transforms_are_right positions_are_right indices_are_right materials_are_right headers vertex_sum index_sum
right_lengths = refl

known_handle : refusal3 floor ≡ false
unfolding refusal3 has_unknown_handle headers
known_handle = refl

few_triples : refusal4 floor ≡ false
unfolding refusal4 triple_sum headers
few_triples = refl

room_enough : (lens : List ℕ) → short_of 2 room lens ≡ false → refusal5 floor room lens ≡ false
unfolding refusal5 triple_sum headers
room_enough lens h = h

near_corners : refusal6 floor ≡ false
unfolding headers cut triples corner_of transform_point_of row_of corners_in corners_of corners_all any_far has_far_corner is_far_corner far_of abs_of is_finite add mul neg lt eq of_bits round
near_corners = refl

-- where the areas are long enough
pub not_refused : (lens : List ℕ) → short_of 2 room lens ≡ false → first_refusal settings room floor lens ≡ 0
unfolding first_refusal
not_refused lens h = rw (fine_settings, right_lengths, known_handle, few_triples, room_enough lens h, near_corners)

pub least_enough : short_of 2 room least_lengths ≡ false
unfolding short_in
least_enough = refl
