-- The scene `star9`: nine patches at one vertex: past eight, only neighbours are linked. Its planes are those that the Rust gave, bit for bit (the dump of the reference), by evaluation.
use mathlib.Core.Path.{◌≡◌, refl}
use mathlib.Core.Bool.{true, false}
use mathlib.Core.List.{List, [], ◌∷◌, flat_map}
use lib.IntN.{pos, negsuc}
use lib.Ieee.{fin, add, sub, mul, div, neg, lt, le, eq, is_nan, of_bits, round, to_bits}
use Rattle.geometry.specs.declared.Triangle.{Triangle}
use Rattle.planes_patches.specs.Lists.{filter_by, all_by, count_by}
use Rattle.planes_patches.specs.Triangles.{nth_triangle, corners_of, box_of}
use Rattle.planes_patches.specs.Normal.{larger_part_of, largest_part_of, is_turned_round, neg3_of, canonical_of, offset_of}
use Rattle.planes_patches.specs.Patch.{patch_at}
use Rattle.planes_groups.specs.Settings.{Settings}
use Rattle.mirror.specs.Plane.{Plane, nth_plane}
use Rattle.planes_patches.specs.Patches.{kept_of, cell_of, around_of, patches_in_cell, lies_in_plane, found_of, lone_patch, joined_of, placed_of, patches_of}
use Rattle.planes_buried.specs.Buried.{larger_of, largest_of, signed_of, probe_ray_of, is_buried, open_of}
use Rattle.planes_links.specs.Links.{follow, is_linked}
use Rattle.planes_groups.specs.Groups.{rank_of, key_for_falling, seeds_of, vertices_of, run_at, is_adjacent, runs_of, in_cone, lies_within, takes, grown_of, groups_from, groups_of}
use Rattle.planes_fit.specs.Fit.{alone_of, side_of, weighted_of, mean_normal_of, total_area_of, group_box_of, group_tris_of, heights_of, mean_offset_of, reach_of, spread_of, fitted_of, plane_of_group}
use Rattle.planes_importance.specs.Importance.{grown_by_of, scene_box_of, centre_of, half_diag_of, moment_of, mean_of, area_centre_of, weighed_of, importance_of, key_of_plane, ranking_of, ranked_of}
use Rattle.planes_borders.specs.Border.{edge_key, keyed_of, sides_of, is_same_edge, used_once, border_of, bordered_of}
use Rattle.planes.specs.Build.{open_patches_of, group_planes_of, planes_of_triangles}
use Rattle.planes_faces.specs.Whole.{whole_of}
use Rattle.planes_faces.specs.Key.{step_of, key_by, same_key, vertex_key}
use Rattle.planes_faces.specs.Triples.{any_order}
use Rattle.planes_faces.specs.Faces.{keys_of, face_of, face_at, same_face, is_first}
use Rattle.order.specs.Sort.{insert, sort_by}
use Rattle.order.specs.Runs.{any_by, first_by, head_or, up_to}
use Rattle.float.specs.Compare.{min_of, max_of, abs_of}
use Rattle.float.specs.Key.{key_of_float}
use Rattle.float.specs.Sqrt.{isqrt, root_of, sqrt_of}
use Rattle.vector.specs.Vector.{vec, dot3_of, sub3_of, add3_of, scale3_of, cross3_of, length3_of, distance3_of, normalize3_of}
use Rattle.geometry.specs.Aabb.{low_of, high_of, new_empty_of, union_of, grow_of, from_corners_of}
use Rattle.geometry.specs.Triangle.{cross_of, triangle_area_of, third_of, centroid_of}
use Rattle.geometry.specs.Intersect.{edges_of_corners, parallel_of, outside_of, within_of, solve_of, crossing_of, intersect_max_of}

abbrev star9_tris : List Triangle
star9_tris =
    record {
      a = (vec (fin false 0 (pos 0)) (fin false 0 (pos 0)) (fin false 0 (pos 0)));
      b = (vec (fin false 3 (pos 0)) (fin false 13421773 (negsuc 27)) (fin false 0 (pos 0)));
      c = (vec (fin false 5912035 (negsuc 20)) (fin false 13421773 (negsuc 27)) (fin false 8607219 (negsuc 22)));
      normal = (vec (fin false 1118321 (negsuc 25)) (fin true 8387407 (negsuc 22)) (fin false 12620171 (negsuc 31)));
      material_handle = 0;
    }
    ∷ record {
      a = (vec (fin false 0 (pos 0)) (fin false 0 (pos 0)) (fin false 0 (pos 0)));
      b = (vec (fin false 5089895 (negsuc 20)) (fin false 7381975 (negsuc 25)) (fin false 3698025 (negsuc 20)));
      c = (vec (fin false 7036275 (negsuc 21)) (fin false 7381975 (negsuc 25)) (fin false 10431707 (negsuc 21)));
      normal = (vec (fin false 433621 (negsuc 23)) (fin true 523925 (negsuc 18)) (fin false 14368887 (negsuc 28)));
      material_handle = 0;
    }
    ∷ record {
      a = (vec (fin false 0 (pos 0)) (fin false 0 (pos 0)) (fin false 0 (pos 0)));
      b = (vec (fin false 15553335 (negsuc 23)) (fin false 11408507 (negsuc 25)) (fin false 2991765 (negsuc 19)));
      c = (vec (fin true 14052393 (negsuc 26)) (fin false 11408507 (negsuc 25)) (fin false 12575247 (negsuc 21)));
      normal = (vec (fin false 4292239 (negsuc 28)) (fin true 8374755 (negsuc 22)) (fin false 1908803 (negsuc 24)));
      material_handle = 0;
    }
    ∷ record {
      a = (vec (fin false 0 (pos 0)) (fin false 0 (pos 0)) (fin false 0 (pos 0)));
      b = (vec (fin true 15553335 (negsuc 23)) (fin false 3 (negsuc 0)) (fin false 2991765 (negsuc 19)));
      c = (vec (fin true 3873407 (negsuc 20)) (fin false 3 (negsuc 0)) (fin false 4957735 (negsuc 20)));
      normal = (vec (fin true 14262859 (negsuc 25)) (fin true 14959559 (negsuc 23)) (fin false 13412271 (negsuc 24)));
      material_handle = 0;
    }
    ∷ record {
      a = (vec (fin false 0 (pos 0)) (fin false 0 (pos 0)) (fin false 0 (pos 0)));
      b = (vec (fin true 5089895 (negsuc 20)) (fin false 9395241 (negsuc 25)) (fin false 3698025 (negsuc 20)));
      c = (vec (fin true 12095471 (negsuc 21)) (fin false 9395241 (negsuc 25)) (fin false 6936641 (negsuc 22)));
      normal = (vec (fin true 11420059 (negsuc 27)) (fin true 8379205 (negsuc 22)) (fin false 11139867 (negsuc 28)));
      material_handle = 0;
    }
    ∷ record {
      a = (vec (fin false 0 (pos 0)) (fin false 0 (pos 0)) (fin false 0 (pos 0)));
      b = (vec (fin true 3 (pos 0)) (fin false 13421773 (negsuc 25)) (fin false 6939877 (negsuc 73)));
      c = (vec (fin true 5912035 (negsuc 20)) (fin false 13421773 (negsuc 25)) (fin true 8607219 (negsuc 22)));
      normal = (vec (fin true 8927417 (negsuc 26)) (fin true 8369453 (negsuc 22)) (fin true 3148289 (negsuc 27)));
      material_handle = 0;
    }
    ∷ record {
      a = (vec (fin false 0 (pos 0)) (fin false 0 (pos 0)) (fin false 0 (pos 0)));
      b = (vec (fin true 5089895 (negsuc 20)) (fin false 7381975 (negsuc 25)) (fin true 3698025 (negsuc 20)));
      c = (vec (fin true 7036275 (negsuc 21)) (fin false 7381975 (negsuc 25)) (fin true 10431707 (negsuc 21)));
      normal = (vec (fin true 433621 (negsuc 23)) (fin true 523925 (negsuc 18)) (fin true 14368887 (negsuc 28)));
      material_handle = 0;
    }
    ∷ record {
      a = (vec (fin false 0 (pos 0)) (fin false 0 (pos 0)) (fin false 0 (pos 0)));
      b = (vec (fin true 15553335 (negsuc 23)) (fin false 11408507 (negsuc 25)) (fin true 2991765 (negsuc 19)));
      c = (vec (fin false 14052393 (negsuc 26)) (fin false 11408507 (negsuc 25)) (fin true 12575247 (negsuc 21)));
      normal = (vec (fin true 4292239 (negsuc 28)) (fin true 8374755 (negsuc 22)) (fin true 1908803 (negsuc 24)));
      material_handle = 0;
    }
    ∷ record {
      a = (vec (fin false 0 (pos 0)) (fin false 0 (pos 0)) (fin false 0 (pos 0)));
      b = (vec (fin false 15553335 (negsuc 23)) (fin false 15435039 (negsuc 25)) (fin true 2991765 (negsuc 19)));
      c = (vec (fin false 3873407 (negsuc 20)) (fin false 15435039 (negsuc 25)) (fin true 4957735 (negsuc 20)));
      normal = (vec (fin false 9781197 (negsuc 27)) (fin true 16726607 (negsuc 23)) (fin true 2299471 (negsuc 24)));
      material_handle = 0;
    }
    ∷ []

abbrev star9_settings : Settings
star9_settings = record { most = 32; merge_on = true; merge_cos = (fin false 8356687 (negsuc 22)); merge_offset = (fin false 1 (pos 0)); buried = (fin false 0 (pos 0)) }

abbrev star9_planes : List Plane
star9_planes =
    record {
      normal = (vec (fin true 15305603 (negsuc 33)) (fin false 8377787 (negsuc 22)) (fin false 13627907 (negsuc 27)));
      offset = (fin false 453191 (negsuc 23));
      area = (fin false 4850231 (negsuc 19));
      box = record { min = (vec (fin true 5089895 (negsuc 20)) (fin false 0 (pos 0)) (fin true 12575247 (negsuc 21))); max = (vec (fin false 3873407 (negsuc 20)) (fin false 15435039 (negsuc 25)) (fin false 0 (pos 0))) };
      tris = (6 ∷ 7 ∷ 8 ∷ []);
      border = (
          record { start = (vec (fin false 0 (pos 0)) (fin false 0 (pos 0)) (fin false 0 (pos 0))); end = (vec (fin true 5089895 (negsuc 20)) (fin false 7381975 (negsuc 25)) (fin true 3698025 (negsuc 20))) }
          ∷ record { start = (vec (fin true 5089895 (negsuc 20)) (fin false 7381975 (negsuc 25)) (fin true 3698025 (negsuc 20))); end = (vec (fin true 7036275 (negsuc 21)) (fin false 7381975 (negsuc 25)) (fin true 10431707 (negsuc 21))) }
          ∷ record { start = (vec (fin true 7036275 (negsuc 21)) (fin false 7381975 (negsuc 25)) (fin true 10431707 (negsuc 21))); end = (vec (fin false 0 (pos 0)) (fin false 0 (pos 0)) (fin false 0 (pos 0))) }
          ∷ record { start = (vec (fin false 0 (pos 0)) (fin false 0 (pos 0)) (fin false 0 (pos 0))); end = (vec (fin true 15553335 (negsuc 23)) (fin false 11408507 (negsuc 25)) (fin true 2991765 (negsuc 19))) }
          ∷ record { start = (vec (fin true 15553335 (negsuc 23)) (fin false 11408507 (negsuc 25)) (fin true 2991765 (negsuc 19))); end = (vec (fin false 14052393 (negsuc 26)) (fin false 11408507 (negsuc 25)) (fin true 12575247 (negsuc 21))) }
          ∷ record { start = (vec (fin false 14052393 (negsuc 26)) (fin false 11408507 (negsuc 25)) (fin true 12575247 (negsuc 21))); end = (vec (fin false 0 (pos 0)) (fin false 0 (pos 0)) (fin false 0 (pos 0))) }
          ∷ record { start = (vec (fin false 0 (pos 0)) (fin false 0 (pos 0)) (fin false 0 (pos 0))); end = (vec (fin false 15553335 (negsuc 23)) (fin false 15435039 (negsuc 25)) (fin true 2991765 (negsuc 19))) }
          ∷ record { start = (vec (fin false 15553335 (negsuc 23)) (fin false 15435039 (negsuc 25)) (fin true 2991765 (negsuc 19))); end = (vec (fin false 3873407 (negsuc 20)) (fin false 15435039 (negsuc 25)) (fin true 4957735 (negsuc 20))) }
          ∷ record { start = (vec (fin false 3873407 (negsuc 20)) (fin false 15435039 (negsuc 25)) (fin true 4957735 (negsuc 20))); end = (vec (fin false 0 (pos 0)) (fin false 0 (pos 0)) (fin false 0 (pos 0))) }
          ∷ []);
      fitted = true;
      spread = (fin false 2718867 (negsuc 24));
    }
    ∷ record {
      normal = (vec (fin true 9039169 (negsuc 28)) (fin false 16767837 (negsuc 23)) (fin true 15507311 (negsuc 28)));
      offset = (fin false 9390601 (negsuc 28));
      area = (fin false 9691159 (negsuc 20));
      box = record { min = (vec (fin true 14052393 (negsuc 26)) (fin false 0 (pos 0)) (fin false 0 (pos 0))); max = (vec (fin false 3 (pos 0)) (fin false 11408507 (negsuc 25)) (fin false 12575247 (negsuc 21))) };
      tris = (0 ∷ 1 ∷ 2 ∷ []);
      border = (
          record { start = (vec (fin false 0 (pos 0)) (fin false 0 (pos 0)) (fin false 0 (pos 0))); end = (vec (fin false 3 (pos 0)) (fin false 13421773 (negsuc 27)) (fin false 0 (pos 0))) }
          ∷ record { start = (vec (fin false 3 (pos 0)) (fin false 13421773 (negsuc 27)) (fin false 0 (pos 0))); end = (vec (fin false 5912035 (negsuc 20)) (fin false 13421773 (negsuc 27)) (fin false 8607219 (negsuc 22))) }
          ∷ record { start = (vec (fin false 5912035 (negsuc 20)) (fin false 13421773 (negsuc 27)) (fin false 8607219 (negsuc 22))); end = (vec (fin false 0 (pos 0)) (fin false 0 (pos 0)) (fin false 0 (pos 0))) }
          ∷ record { start = (vec (fin false 0 (pos 0)) (fin false 0 (pos 0)) (fin false 0 (pos 0))); end = (vec (fin false 5089895 (negsuc 20)) (fin false 7381975 (negsuc 25)) (fin false 3698025 (negsuc 20))) }
          ∷ record { start = (vec (fin false 5089895 (negsuc 20)) (fin false 7381975 (negsuc 25)) (fin false 3698025 (negsuc 20))); end = (vec (fin false 7036275 (negsuc 21)) (fin false 7381975 (negsuc 25)) (fin false 10431707 (negsuc 21))) }
          ∷ record { start = (vec (fin false 7036275 (negsuc 21)) (fin false 7381975 (negsuc 25)) (fin false 10431707 (negsuc 21))); end = (vec (fin false 0 (pos 0)) (fin false 0 (pos 0)) (fin false 0 (pos 0))) }
          ∷ record { start = (vec (fin false 0 (pos 0)) (fin false 0 (pos 0)) (fin false 0 (pos 0))); end = (vec (fin false 15553335 (negsuc 23)) (fin false 11408507 (negsuc 25)) (fin false 2991765 (negsuc 19))) }
          ∷ record { start = (vec (fin false 15553335 (negsuc 23)) (fin false 11408507 (negsuc 25)) (fin false 2991765 (negsuc 19))); end = (vec (fin true 14052393 (negsuc 26)) (fin false 11408507 (negsuc 25)) (fin false 12575247 (negsuc 21))) }
          ∷ record { start = (vec (fin true 14052393 (negsuc 26)) (fin false 11408507 (negsuc 25)) (fin false 12575247 (negsuc 21))); end = (vec (fin false 0 (pos 0)) (fin false 0 (pos 0)) (fin false 0 (pos 0))) }
          ∷ []);
      fitted = true;
      spread = (fin false 4534903 (negsuc 25));
    }
    ∷ record {
      normal = (vec (fin false 14642305 (negsuc 27)) (fin false 16752069 (negsuc 23)) (fin true 9668243 (negsuc 30)));
      offset = (fin false 725895 (negsuc 25));
      area = (fin false 6466423 (negsuc 20));
      box = record { min = (vec (fin true 3 (pos 0)) (fin false 0 (pos 0)) (fin true 8607219 (negsuc 22))); max = (vec (fin false 0 (pos 0)) (fin false 13421773 (negsuc 25)) (fin false 3698025 (negsuc 20))) };
      tris = (4 ∷ 5 ∷ []);
      border = (
          record { start = (vec (fin false 0 (pos 0)) (fin false 0 (pos 0)) (fin false 0 (pos 0))); end = (vec (fin true 5089895 (negsuc 20)) (fin false 9395241 (negsuc 25)) (fin false 3698025 (negsuc 20))) }
          ∷ record { start = (vec (fin true 5089895 (negsuc 20)) (fin false 9395241 (negsuc 25)) (fin false 3698025 (negsuc 20))); end = (vec (fin true 12095471 (negsuc 21)) (fin false 9395241 (negsuc 25)) (fin false 6936641 (negsuc 22))) }
          ∷ record { start = (vec (fin true 12095471 (negsuc 21)) (fin false 9395241 (negsuc 25)) (fin false 6936641 (negsuc 22))); end = (vec (fin false 0 (pos 0)) (fin false 0 (pos 0)) (fin false 0 (pos 0))) }
          ∷ record { start = (vec (fin false 0 (pos 0)) (fin false 0 (pos 0)) (fin false 0 (pos 0))); end = (vec (fin true 3 (pos 0)) (fin false 13421773 (negsuc 25)) (fin false 6939877 (negsuc 73))) }
          ∷ record { start = (vec (fin true 3 (pos 0)) (fin false 13421773 (negsuc 25)) (fin false 6939877 (negsuc 73))); end = (vec (fin true 5912035 (negsuc 20)) (fin false 13421773 (negsuc 25)) (fin true 8607219 (negsuc 22))) }
          ∷ record { start = (vec (fin true 5912035 (negsuc 20)) (fin false 13421773 (negsuc 25)) (fin true 8607219 (negsuc 22))); end = (vec (fin false 0 (pos 0)) (fin false 0 (pos 0)) (fin false 0 (pos 0))) }
          ∷ []);
      fitted = true;
      spread = (fin false 10665265 (negsuc 27));
    }
    ∷ record {
      normal = (vec (fin false 14262859 (negsuc 25)) (fin false 14959559 (negsuc 23)) (fin true 13412271 (negsuc 24)));
      offset = (fin true 0 (pos 0));
      area = (fin false 226243 (negsuc 16));
      box = record { min = (vec (fin true 3873407 (negsuc 20)) (fin false 0 (pos 0)) (fin false 0 (pos 0))); max = (vec (fin false 0 (pos 0)) (fin false 3 (negsuc 0)) (fin false 2991765 (negsuc 19))) };
      tris = (3 ∷ []);
      border = (
          record { start = (vec (fin false 0 (pos 0)) (fin false 0 (pos 0)) (fin false 0 (pos 0))); end = (vec (fin true 15553335 (negsuc 23)) (fin false 3 (negsuc 0)) (fin false 2991765 (negsuc 19))) }
          ∷ record { start = (vec (fin true 15553335 (negsuc 23)) (fin false 3 (negsuc 0)) (fin false 2991765 (negsuc 19))); end = (vec (fin true 3873407 (negsuc 20)) (fin false 3 (negsuc 0)) (fin false 4957735 (negsuc 20))) }
          ∷ record { start = (vec (fin true 3873407 (negsuc 20)) (fin false 3 (negsuc 0)) (fin false 4957735 (negsuc 20))); end = (vec (fin false 0 (pos 0)) (fin false 0 (pos 0)) (fin false 0 (pos 0))) }
          ∷ []);
      fitted = false;
      spread = (fin false 0 (pos 0));
    }
    ∷ []

star9_built : planes_of_triangles star9_settings (λ r. false) star9_tris ≡ star9_planes
unfolding filter_by all_by count_by nth_triangle corners_of box_of larger_part_of largest_part_of is_turned_round neg3_of canonical_of offset_of patch_at nth_plane kept_of
    cell_of around_of patches_in_cell lies_in_plane found_of lone_patch joined_of placed_of patches_of larger_of largest_of signed_of probe_ray_of is_buried open_of rank_of
    key_for_falling seeds_of vertices_of run_at follow is_linked is_adjacent runs_of in_cone lies_within takes grown_of groups_from groups_of alone_of side_of
    weighted_of mean_normal_of total_area_of group_box_of group_tris_of heights_of mean_offset_of reach_of spread_of fitted_of plane_of_group grown_by_of scene_box_of centre_of
    half_diag_of moment_of mean_of area_centre_of weighed_of importance_of key_of_plane ranking_of ranked_of edge_key keyed_of sides_of is_same_edge used_once border_of
    bordered_of open_patches_of group_planes_of planes_of_triangles whole_of step_of key_by same_key vertex_key any_order keys_of face_of face_at same_face is_first insert
    sort_by any_by first_by head_or up_to min_of max_of abs_of key_of_float isqrt root_of sqrt_of dot3_of sub3_of add3_of scale3_of cross3_of length3_of distance3_of
    normalize3_of low_of high_of new_empty_of union_of grow_of from_corners_of cross_of triangle_area_of third_of centroid_of edges_of_corners parallel_of outside_of within_of
    solve_of crossing_of intersect_max_of add sub mul div neg lt le eq is_nan of_bits flat_map round to_bits
star9_built = refl
