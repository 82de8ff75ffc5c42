-- THE MIRROR PLANES of a scene: `build_planes`. `probe` says whether a ray hits something within its reach.
use Rattle.std.specs.Prelude.{Bool, List, map}
use Rattle.vector.specs.declared.Ray.{Ray}
use Rattle.geometry.specs.declared.Triangle.{Triangle}
use Rattle.planes_patches.specs.Patch.{Patch}
use Rattle.scene.specs.declared.Settings as scene
use Rattle.planes_groups.specs.Settings.{Settings}
use Rattle.mirror.specs.Plane.{Plane}
use Rattle.planes_patches.specs.Patches.{patches_of}
use Rattle.planes_buried.specs.Buried.{open_of}
use Rattle.planes_groups.specs.Groups.{groups_of}
use Rattle.planes_fit.specs.Fit.{plane_of_group}
use Rattle.planes_importance.specs.Importance.{ranked_of}
use Rattle.planes_borders.specs.Border.{bordered_of}

-- what the query's settings say of planes
abbrev pub plane_settings : scene.Settings → Settings
plane_settings s =
    record {
      most = s.max_reflection_planes;
      merge_on = s.plane_merge;
      merge_cos = s.plane_merge_cos;
      merge_offset = s.plane_merge_offset;
      buried = s.plane_buried_distance;
    }

-- steps 1 to 3
unfoldable pub open_patches_of : Settings → (Ray → Bool) → List Triangle → List Patch
open_patches_of s probe ts = open_of probe ts s.buried (patches_of ts)

-- step 4, and a plane for each group
unfoldable pub group_planes_of : Settings → List Triangle → List Patch → List Plane
group_planes_of s ts ps = map (plane_of_group ts ps) (groups_of s ts ps)

-- step 5, and the borders
unfoldable pub planes_of_triangles : Settings → (Ray → Bool) → List Triangle → List Plane
planes_of_triangles s probe ts = map (bordered_of ts) (ranked_of ts s.most (group_planes_of s ts (open_patches_of s probe ts)))
