-- The scene `vault5`: a group grows breadth first. Its planes are those that the Rust gave, bit for bit (the dump of the reference), by evaluation.
use mathlib.Core.Path.{◌≡◌, refl}
use mathlib.Core.Bool.{true, false}
use mathlib.Core.List.{List, [], ◌∷◌, flat_map}
use lib.IntN.{pos, negsuc}
use lib.Ieee.{fin, add, sub, mul, div, neg, lt, le, eq, is_nan, of_bits, round, to_bits}
use Rattle.geometry.specs.declared.Triangle.{Triangle}
use Rattle.planes_patches.specs.Lists.{filter_by, all_by, count_by}
use Rattle.planes_patches.specs.Triangles.{nth_triangle, corners_of, box_of}
use Rattle.planes_patches.specs.Normal.{larger_part_of, largest_part_of, is_turned_round, neg3_of, canonical_of, offset_of}
use Rattle.planes_patches.specs.Patch.{patch_at}
use Rattle.planes_groups.specs.Settings.{Settings}
use Rattle.mirror.specs.Plane.{Plane, nth_plane}
use Rattle.planes_patches.specs.Patches.{kept_of, cell_of, around_of, patches_in_cell, lies_in_plane, found_of, lone_patch, joined_of, placed_of, patches_of}
use Rattle.planes_buried.specs.Buried.{larger_of, largest_of, signed_of, probe_ray_of, is_buried, open_of}
use Rattle.planes_links.specs.Links.{follow, is_linked}
use Rattle.planes_groups.specs.Groups.{rank_of, key_for_falling, seeds_of, vertices_of, run_at, is_adjacent, runs_of, in_cone, lies_within, takes, grown_of, groups_from, groups_of}
use Rattle.planes_fit.specs.Fit.{alone_of, side_of, weighted_of, mean_normal_of, total_area_of, group_box_of, group_tris_of, heights_of, mean_offset_of, reach_of, spread_of, fitted_of, plane_of_group}
use Rattle.planes_importance.specs.Importance.{grown_by_of, scene_box_of, centre_of, half_diag_of, moment_of, mean_of, area_centre_of, weighed_of, importance_of, key_of_plane, ranking_of, ranked_of}
use Rattle.planes_borders.specs.Border.{edge_key, keyed_of, sides_of, is_same_edge, used_once, border_of, bordered_of}
use Rattle.planes.specs.Build.{open_patches_of, group_planes_of, planes_of_triangles}
use Rattle.planes_faces.specs.Whole.{whole_of}
use Rattle.planes_faces.specs.Key.{step_of, key_by, same_key, vertex_key}
use Rattle.planes_faces.specs.Triples.{any_order}
use Rattle.planes_faces.specs.Faces.{keys_of, face_of, face_at, same_face, is_first}
use Rattle.order.specs.Sort.{insert, sort_by}
use Rattle.order.specs.Runs.{any_by, first_by, head_or, up_to}
use Rattle.float.specs.Compare.{min_of, max_of, abs_of}
use Rattle.float.specs.Key.{key_of_float}
use Rattle.float.specs.Sqrt.{isqrt, root_of, sqrt_of}
use Rattle.vector.specs.Vector.{vec, dot3_of, sub3_of, add3_of, scale3_of, cross3_of, length3_of, distance3_of, normalize3_of}
use Rattle.geometry.specs.Aabb.{low_of, high_of, new_empty_of, union_of, grow_of, from_corners_of}
use Rattle.geometry.specs.Triangle.{cross_of, triangle_area_of, third_of, centroid_of}
use Rattle.geometry.specs.Intersect.{edges_of_corners, parallel_of, outside_of, within_of, solve_of, crossing_of, intersect_max_of}

abbrev vault5_tris : List Triangle
vault5_tris =
    record {
      a = (vec (fin true 14035337 (negsuc 21)) (fin false 12070817 (negsuc 21)) (fin false 0 (pos 0)));
      b = (vec (fin true 14035337 (negsuc 21)) (fin false 12070817 (negsuc 21)) (fin false 5557453 (negsuc 19)));
      c = (vec (fin true 1074503 (negsuc 18)) (fin false 12451171 (negsuc 21)) (fin false 5557453 (negsuc 19)));
      normal = (vec (fin true 73145 (negsuc 19)) (fin false 16736347 (negsuc 23)) (fin false 0 (pos 0)));
      material_handle = 0;
    }
    ∷ record {
      a = (vec (fin true 14035337 (negsuc 21)) (fin false 12070817 (negsuc 21)) (fin false 0 (pos 0)));
      b = (vec (fin true 1074503 (negsuc 18)) (fin false 12451171 (negsuc 21)) (fin false 5557453 (negsuc 19)));
      c = (vec (fin true 1074503 (negsuc 18)) (fin false 12451171 (negsuc 21)) (fin false 0 (pos 0)));
      normal = (vec (fin true 73145 (negsuc 19)) (fin false 16736347 (negsuc 23)) (fin false 0 (pos 0)));
      material_handle = 0;
    }
    ∷ record {
      a = (vec (fin true 1074503 (negsuc 18)) (fin false 12451171 (negsuc 21)) (fin false 0 (pos 0)));
      b = (vec (fin true 1074503 (negsuc 18)) (fin false 12451171 (negsuc 21)) (fin false 5557453 (negsuc 19)));
      c = (vec (fin true 9646899 (negsuc 22)) (fin false 3 (pos 0)) (fin false 5557453 (negsuc 19)));
      normal = (vec (fin true 9368247 (negsuc 27)) (fin false 16766995 (negsuc 23)) (fin false 0 (pos 0)));
      material_handle = 0;
    }
    ∷ record {
      a = (vec (fin true 1074503 (negsuc 18)) (fin false 12451171 (negsuc 21)) (fin false 0 (pos 0)));
      b = (vec (fin true 9646899 (negsuc 22)) (fin false 3 (pos 0)) (fin false 5557453 (negsuc 19)));
      c = (vec (fin true 9646899 (negsuc 22)) (fin false 3 (pos 0)) (fin false 0 (pos 0)));
      normal = (vec (fin true 9368247 (negsuc 27)) (fin false 16766995 (negsuc 23)) (fin false 0 (pos 0)));
      material_handle = 0;
    }
    ∷ record {
      a = (vec (fin true 9646899 (negsuc 22)) (fin false 3 (pos 0)) (fin false 0 (pos 0)));
      b = (vec (fin true 9646899 (negsuc 22)) (fin false 3 (pos 0)) (fin false 5557453 (negsuc 19)));
      c = (vec (fin false 9646899 (negsuc 22)) (fin false 3 (pos 0)) (fin false 5557453 (negsuc 19)));
      normal = (vec (fin false 0 (pos 0)) (fin false 1 (pos 0)) (fin false 0 (pos 0)));
      material_handle = 0;
    }
    ∷ record {
      a = (vec (fin true 9646899 (negsuc 22)) (fin false 3 (pos 0)) (fin false 0 (pos 0)));
      b = (vec (fin false 9646899 (negsuc 22)) (fin false 3 (pos 0)) (fin false 5557453 (negsuc 19)));
      c = (vec (fin false 9646899 (negsuc 22)) (fin false 3 (pos 0)) (fin false 0 (pos 0)));
      normal = (vec (fin false 0 (pos 0)) (fin false 1 (pos 0)) (fin false 0 (pos 0)));
      material_handle = 0;
    }
    ∷ record {
      a = (vec (fin false 9646899 (negsuc 22)) (fin false 3 (pos 0)) (fin false 0 (pos 0)));
      b = (vec (fin false 9646899 (negsuc 22)) (fin false 3 (pos 0)) (fin false 5557453 (negsuc 19)));
      c = (vec (fin false 9434373 (negsuc 21)) (fin false 12421895 (negsuc 21)) (fin false 5557453 (negsuc 19)));
      normal = (vec (fin false 4684131 (negsuc 26)) (fin false 4191749 (negsuc 21)) (fin true 0 (pos 0)));
      material_handle = 0;
    }
    ∷ record {
      a = (vec (fin false 9646899 (negsuc 22)) (fin false 3 (pos 0)) (fin false 0 (pos 0)));
      b = (vec (fin false 9434373 (negsuc 21)) (fin false 12421895 (negsuc 21)) (fin false 5557453 (negsuc 19)));
      c = (vec (fin false 9434373 (negsuc 21)) (fin false 12421895 (negsuc 21)) (fin false 0 (pos 0)));
      normal = (vec (fin false 4684131 (negsuc 26)) (fin false 4191749 (negsuc 21)) (fin false 0 (pos 0)));
      material_handle = 0;
    }
    ∷ record {
      a = (vec (fin false 9434373 (negsuc 21)) (fin false 12421895 (negsuc 21)) (fin false 0 (pos 0)));
      b = (vec (fin false 9434373 (negsuc 21)) (fin false 12421895 (negsuc 21)) (fin false 5557453 (negsuc 19)));
      c = (vec (fin false 6181617 (negsuc 20)) (fin false 12217089 (negsuc 21)) (fin false 5557453 (negsuc 19)));
      normal = (vec (fin false 73145 (negsuc 19)) (fin false 4184087 (negsuc 21)) (fin true 0 (pos 0)));
      material_handle = 0;
    }
    ∷ record {
      a = (vec (fin false 9434373 (negsuc 21)) (fin false 12421895 (negsuc 21)) (fin false 0 (pos 0)));
      b = (vec (fin false 6181617 (negsuc 20)) (fin false 12217089 (negsuc 21)) (fin false 5557453 (negsuc 19)));
      c = (vec (fin false 6181617 (negsuc 20)) (fin false 12217089 (negsuc 21)) (fin false 0 (pos 0)));
      normal = (vec (fin false 73145 (negsuc 19)) (fin false 4184087 (negsuc 21)) (fin false 0 (pos 0)));
      material_handle = 0;
    }
    ∷ []

abbrev vault5_settings : Settings
vault5_settings = record { most = 32; merge_on = true; merge_cos = (fin false 8356687 (negsuc 22)); merge_offset = (fin false 1 (negsuc 1)); buried = (fin false 0 (pos 0)) }

abbrev vault5_planes : List Plane
vault5_planes =
    record {
      normal = (vec (fin true 11898823 (negsuc 30)) (fin false 16776959 (negsuc 23)) (fin false 0 (pos 0)));
      offset = (fin false 12468199 (negsuc 21));
      area = (fin false 2188247 (negsuc 15));
      box = record { min = (vec (fin true 14035337 (negsuc 21)) (fin false 12070817 (negsuc 21)) (fin false 0 (pos 0))); max = (vec (fin false 6181617 (negsuc 20)) (fin false 3 (pos 0)) (fin false 5557453 (negsuc 19))) };
      tris = (0 ∷ 1 ∷ 2 ∷ 3 ∷ 4 ∷ 5 ∷ 6 ∷ 7 ∷ 8 ∷ 9 ∷ []);
      border = (
          record { start = (vec (fin true 14035337 (negsuc 21)) (fin false 12070817 (negsuc 21)) (fin false 0 (pos 0))); end = (vec (fin true 14035337 (negsuc 21)) (fin false 12070817 (negsuc 21)) (fin false 5557453 (negsuc 19))) }
          ∷ record { start = (vec (fin true 14035337 (negsuc 21)) (fin false 12070817 (negsuc 21)) (fin false 5557453 (negsuc 19))); end = (vec (fin true 1074503 (negsuc 18)) (fin false 12451171 (negsuc 21)) (fin false 5557453 (negsuc 19))) }
          ∷ record { start = (vec (fin true 1074503 (negsuc 18)) (fin false 12451171 (negsuc 21)) (fin false 0 (pos 0))); end = (vec (fin true 14035337 (negsuc 21)) (fin false 12070817 (negsuc 21)) (fin false 0 (pos 0))) }
          ∷ record { start = (vec (fin true 1074503 (negsuc 18)) (fin false 12451171 (negsuc 21)) (fin false 5557453 (negsuc 19))); end = (vec (fin true 9646899 (negsuc 22)) (fin false 3 (pos 0)) (fin false 5557453 (negsuc 19))) }
          ∷ record { start = (vec (fin true 9646899 (negsuc 22)) (fin false 3 (pos 0)) (fin false 0 (pos 0))); end = (vec (fin true 1074503 (negsuc 18)) (fin false 12451171 (negsuc 21)) (fin false 0 (pos 0))) }
          ∷ record { start = (vec (fin true 9646899 (negsuc 22)) (fin false 3 (pos 0)) (fin false 5557453 (negsuc 19))); end = (vec (fin false 9646899 (negsuc 22)) (fin false 3 (pos 0)) (fin false 5557453 (negsuc 19))) }
          ∷ record { start = (vec (fin false 9646899 (negsuc 22)) (fin false 3 (pos 0)) (fin false 0 (pos 0))); end = (vec (fin true 9646899 (negsuc 22)) (fin false 3 (pos 0)) (fin false 0 (pos 0))) }
          ∷ record { start = (vec (fin false 9646899 (negsuc 22)) (fin false 3 (pos 0)) (fin false 5557453 (negsuc 19))); end = (vec (fin false 9434373 (negsuc 21)) (fin false 12421895 (negsuc 21)) (fin false 5557453 (negsuc 19))) }
          ∷ record { start = (vec (fin false 9434373 (negsuc 21)) (fin false 12421895 (negsuc 21)) (fin false 0 (pos 0))); end = (vec (fin false 9646899 (negsuc 22)) (fin false 3 (pos 0)) (fin false 0 (pos 0))) }
          ∷ record { start = (vec (fin false 9434373 (negsuc 21)) (fin false 12421895 (negsuc 21)) (fin false 5557453 (negsuc 19))); end = (vec (fin false 6181617 (negsuc 20)) (fin false 12217089 (negsuc 21)) (fin false 5557453 (negsuc 19))) }
          ∷ record { start = (vec (fin false 6181617 (negsuc 20)) (fin false 12217089 (negsuc 21)) (fin false 5557453 (negsuc 19))); end = (vec (fin false 6181617 (negsuc 20)) (fin false 12217089 (negsuc 21)) (fin false 0 (pos 0))) }
          ∷ record { start = (vec (fin false 6181617 (negsuc 20)) (fin false 12217089 (negsuc 21)) (fin false 0 (pos 0))); end = (vec (fin false 9434373 (negsuc 21)) (fin false 12421895 (negsuc 21)) (fin false 0 (pos 0))) }
          ∷ []);
      fitted = true;
      spread = (fin false 39975 (negsuc 18));
    }
    ∷ []

vault5_built : planes_of_triangles vault5_settings (λ r. false) vault5_tris ≡ vault5_planes
unfolding filter_by all_by count_by nth_triangle corners_of box_of larger_part_of largest_part_of is_turned_round neg3_of canonical_of offset_of patch_at nth_plane kept_of
    cell_of around_of patches_in_cell lies_in_plane found_of lone_patch joined_of placed_of patches_of larger_of largest_of signed_of probe_ray_of is_buried open_of rank_of
    key_for_falling seeds_of vertices_of run_at follow is_linked is_adjacent runs_of in_cone lies_within takes grown_of groups_from groups_of alone_of side_of
    weighted_of mean_normal_of total_area_of group_box_of group_tris_of heights_of mean_offset_of reach_of spread_of fitted_of plane_of_group grown_by_of scene_box_of centre_of
    half_diag_of moment_of mean_of area_centre_of weighed_of importance_of key_of_plane ranking_of ranked_of edge_key keyed_of sides_of is_same_edge used_once border_of
    bordered_of open_patches_of group_planes_of planes_of_triangles whole_of step_of key_by same_key vertex_key any_order keys_of face_of face_at same_face is_first insert
    sort_by any_by first_by head_or up_to min_of max_of abs_of key_of_float isqrt root_of sqrt_of dot3_of sub3_of add3_of scale3_of cross3_of length3_of distance3_of
    normalize3_of low_of high_of new_empty_of union_of grow_of from_corners_of cross_of triangle_area_of third_of centroid_of edges_of_corners parallel_of outside_of within_of
    solve_of crossing_of intersect_max_of add sub mul div neg lt le eq is_nan of_bits flat_map round to_bits
vault5_built = refl
