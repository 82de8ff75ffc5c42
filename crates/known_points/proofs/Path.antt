-- Case A's path by way of the floor.
use mathlib.Core.Path.{◌≡◌, refl, sym, subst}
use Prim.Native.Nat.{◌+◌}
use mathlib.Core.Bool.{true, false}
use mathlib.Core.List.{[], ◌∷◌}
use lib.IntN.{pos, negsuc}
use lib.Ieee.{fin, binary32, add, sub, mul, div, neg, lt, le, eq, is_nan, of_bits, of_int, round}
use Rattle.float.specs.Literals.{one32}
use Rattle.float.specs.Compare.{min_of, max_of, abs_of, clamp_of, is_finite}
use Rattle.float.specs.Sqrt.{isqrt, root_of, sqrt_of}
use Rattle.vector.specs.declared.Vec3.{Vec3}
use Rattle.vector.specs.Vector.{vec, dot3_of, sub3_of, add3_of, scale3_of, cross3_of, length3_of, distance3_of, normalize3_of}
use Rattle.vector.specs.Basis.{tangent_of, probe_basis_of, probe_angle_of}
use Rattle.vector.specs.Ray.{point_at_of}
use Rattle.geometry.specs.Slab.{pad_of, padded_of, narrow_of, axis_of, slab_of, intersect_tof}
use Rattle.geometry.specs.Intersect.{edges_of_corners, parallel_of, outside_of, within_of, solve_of, crossing_of, intersect_max_of}
use Rattle.geometry.specs.Contains.{dots_of_edges, inside_of, contains_of, contains_point_of}
use Rattle.planes_patches.specs.Triangles.{nth_triangle}
use Rattle.bands.specs.Band8.{splat_of, zeros_of, mul_of, scale_of, sum_of_squares_of}
use Rattle.bands.specs.Distance.{held_of, furthest_of, between_of, inverse_of, curve_of, gain_of}
use Rattle.tree_trace.specs.Leaf.{visit_of, visit_all_of}
use Rattle.tree_trace.specs.Trace.{trace_tree, intersect_of}
use Rattle.mirror.specs.Plane.{nth_plane}
use Rattle.mirror.specs.Mirror as mirror
use Rattle.mirror.specs.Border.{nearest_of, point_segment_distance_of, nearer_of, border_distance_of, smooth_of, weight_of}
use Rattle.mirror.specs.Locate as locate
use Rattle.scene.specs.Limits.{max_crossings, visibility_radius}
use Rattle.scene.specs.Speed.{speed_of}
use Rattle.segments.specs.Materials.{bands_of_floats, transmission_of_handle, coefficient_of, coefficients_of, reflection_of_handle}
use Rattle.segments.specs.Segment.{transmission, segment_ray_of, walk_of, segment_transmission_of, offset_of, mid_of, add_part_of, probe_of, probes_of, segment_soft_transmission_of}
use Rattle.segments.specs.Areas.{trace_in}
use Rattle.bounces.specs.Image.{image_of}
use Rattle.bounces.specs.Bounces.{bounce_of, made, back_of, bounces_of}
use Rattle.segments.specs.declared.Transmission.{Transmission}
use Rattle.paths.specs.declared.Way.{Way}
use Rattle.paths.specs.declared.PathCandidate.{PathCandidate}
use Rattle.paths.specs.declared.Fate.TheVariants.{Passed}
use Rattle.paths.specs.Visibility.{start_of, go_of, go_all_of, way_of}
use Rattle.air.specs.Table.{factor_table}
use Rattle.air.specs.Air.{millimetres_of, steps_in, factor_of_steps, band_of, bands_of, air_gain_of}
use Rattle.paths.specs.Gains.{usable_of, reflected_of, gains_of, candidate_of, arrived_of}
use Rattle.paths.specs.Path.{verdict, bounced_of, path_with, path_of}
use Rattle.claim.specs.Answer.{Found, tap_of}
use Rattle.known_points.specs.CaseA.{settings, materials, source, listener, speed, image, bounce, tap}
use Rattle.known_points.proofs.Scene.{two}
use Rattle.known_points.proofs.Tree.{tree}
use Rattle.known_points.proofs.Planes.{plane}

-- ---- the image and the bounce

pub image_is : image_of (plane ∷ []) source (0 ∷ []) ≡ image
unfolding image_of nth_plane mirror.mirror_of mirror.signed_distance_of dot3_of add sub mul neg of_bits round
image_is = refl

near : le (distance3_of listener image) settings.max_reflection_distance ≡ true
unfolding distance3_of length3_of dot3_of sub3_of sqrt_of root_of isqrt add sub mul neg le lt eq of_bits round
near = refl

pub bounces_are :
    bounces_of (nth_triangle two) settings.reflection_edge_fade (plane ∷ []) source listener (0 ∷ []) ≡ made (bounce ∷ []) (0 ∷ []) one32
unfolding bounces_of back_of bounce_of image_of nth_plane nth_triangle mirror.mirror_of mirror.signed_distance_of mirror.crossing_of mirror.along_of
    locate.locate_on_plane_of locate.contains_in_box_of locate.within_of locate.spot_of locate.find_of contains_point_of contains_of inside_of dots_of_edges edges_of_corners
    weight_of smooth_of border_distance_of nearer_of point_segment_distance_of nearest_of distance3_of length3_of dot3_of sub3_of add3_of scale3_of min_of clamp_of
    abs_of sqrt_of root_of isqrt add sub mul div neg le lt eq is_nan of_bits round
bounces_are = refl

-- ---- the segments: nothing is in the way, nine times a ninth, and two traces each

first_segment : segment_soft_transmission_of (trace_in (nth_triangle two) tree) (transmission_of_handle materials) max_crossings visibility_radius listener bounce ≡ transmission (splat_of one32) 18
unfolding segment_soft_transmission_of probes_of probe_of add_part_of mid_of offset_of probe_basis_of tangent_of probe_angle_of segment_transmission_of segment_ray_of
    walk_of intersect_of trace_tree visit_of visit_all_of nth_triangle intersect_max_of crossing_of edges_of_corners solve_of within_of outside_of parallel_of intersect_tof
    slab_of padded_of pad_of axis_of narrow_of min_of max_of abs_of clamp_of dot3_of sub3_of cross3_of length3_of distance3_of normalize3_of sqrt_of root_of isqrt
    point_at_of add3_of scale3_of splat_of zeros_of mul_of add sub mul div neg lt le eq is_nan of_bits round
first_segment = refl

second_segment : segment_soft_transmission_of (trace_in (nth_triangle two) tree) (transmission_of_handle materials) max_crossings visibility_radius bounce source ≡ transmission (splat_of one32) 18
unfolding segment_soft_transmission_of probes_of probe_of add_part_of mid_of offset_of probe_basis_of tangent_of probe_angle_of segment_transmission_of segment_ray_of
    walk_of intersect_of trace_tree visit_of visit_all_of nth_triangle intersect_max_of crossing_of edges_of_corners solve_of within_of outside_of parallel_of intersect_tof
    slab_of padded_of pad_of axis_of narrow_of min_of max_of abs_of clamp_of dot3_of sub3_of cross3_of length3_of distance3_of normalize3_of sqrt_of root_of isqrt
    point_at_of add3_of scale3_of splat_of zeros_of mul_of add sub mul div neg lt le eq is_nan of_bits round
second_segment = refl

-- ---- what arrives

pub speed_is : speed_of settings.temperature_celsius ≡ speed
unfolding speed_of sqrt_of root_of isqrt add mul div of_bits round
speed_is = refl

abbrev pub candidate : PathCandidate
candidate =
    record {
      energy = fin false 10737419 (negsuc 26);
      delay = fin false 5728671 (negsuc 12);
      direction = vec (fin true 5033165 (negsuc 22)) (fin true 13421773 (negsuc 23)) (fin false 0 (pos 0));
      gains = splat_of (fin false 13421773 (negsuc 26));
    }

abbrev pub found : Found
found = record { energy = candidate.energy; delay = candidate.delay; direction = candidate.direction; gains = candidate.gains }

-- with the order and the number of the one image it is the tap that is known
pub tap_is : tap_of 1 (0 ∷ []) found ≡ tap
unfolding splat_of of_bits round
tap_is = refl

-- 2.5 metres and 2.5 metres
abbrev way : Way
way = record { gain = splat_of one32; total = fin false 5 (pos 0); from = source; rays = 36 }

-- a segment's way by what the segment gives
abbrev onward : Transmission → Vec3 → Way → Way
onward t to w =
    record {
      gain = mul_of w.gain t.gain;
      total = add binary32 w.total (distance3_of w.from to);
      from = to;
      rays = w.rays + t.rays;
    }

abbrev clear : Transmission
clear = transmission (splat_of one32) 18

clear_way : onward clear source (onward clear bounce (start_of listener)) ≡ way
unfolding start_of distance3_of length3_of dot3_of sub3_of sqrt_of root_of isqrt splat_of mul_of add sub mul neg lt eq of_bits round
clear_way = refl

way_is :
    (soft : Vec3 → Vec3 → Transmission) → soft listener bounce ≡ transmission (splat_of one32) 18 → soft bounce source ≡ transmission (splat_of one32) 18 →
    way_of soft listener source (bounce ∷ []) ≡ way
unfolding way_of go_all_of go_of start_of
way_is soft first second =
    subst (λ (a : Transmission). onward (soft bounce source) source (onward a bounce (start_of listener)) ≡ way) (sym first)
    (subst (λ (b : Transmission). onward b source (onward clear bounce (start_of listener)) ≡ way) (sym second) clear_way)

usable : usable_of (fin false 5 (pos 0)) settings.max_reflection_distance ≡ true
unfolding usable_of is_finite lt of_bits round
usable = refl

arrives :
    arrived_of settings bounce listener (fin false 5 (pos 0)) one32
    (gains_of settings.distance_model settings.air (reflected_of materials (nth_triangle two) (0 ∷ [])) (fin false 5 (pos 0)) one32) (splat_of one32)
    ≡ Passed candidate
unfolding arrived_of gains_of reflected_of air_gain_of bands_of band_of steps_in factor_of_steps factor_table millimetres_of of_int candidate_of speed_of gain_of curve_of
    inverse_of between_of furthest_of held_of nth_triangle reflection_of_handle coefficients_of coefficient_of bands_of_floats splat_of mul_of scale_of sum_of_squares_of
    normalize3_of length3_of dot3_of sub3_of sqrt_of root_of isqrt min_of max_of clamp_of is_finite add sub mul div neg lt le eq is_nan of_bits round
arrives = refl

gone :
    (soft : Vec3 → Vec3 → Transmission) → soft listener bounce ≡ transmission (splat_of one32) 18 → soft bounce source ≡ transmission (splat_of one32) 18 →
    bounced_of soft settings materials (nth_triangle two) 1 source listener (made (bounce ∷ []) (0 ∷ []) one32) ≡ verdict (Passed candidate) 36
unfolding bounced_of
gone soft first second = rw (way_is soft first second, usable, arrives)

pub path_is : path_of settings (plane ∷ []) (nth_triangle two) tree materials source listener (0 ∷ []) ≡ verdict (Passed candidate) 36
unfolding path_of path_with
path_is = rw (image_is, near, bounces_are, gone (segment_soft_transmission_of (trace_in (nth_triangle two) tree) (transmission_of_handle materials) max_crossings visibility_radius) first_segment second_segment)
