-- Step 3, buried patches: left out where a probe finds something on both sides of the largest triangle.
use Rattle.std.specs.Prelude.{ℕ, Bool, cond, not, ◌&&◌, Float, List}
use mathlib.Core.List.{foldl}
use Rattle.std.specs.Float.{binary32}
use Rattle.std.specs.Float.Ieee.{mul, neg, lt, of_bits}
use Rattle.float.specs.Literals.{zero32, one32}
use Rattle.vector.specs.declared.Vec3.{Vec3}
use Rattle.vector.specs.declared.Ray.{Ray}
use Rattle.vector.specs.Vector.{vec, add3_of, scale3_of}
use Rattle.geometry.specs.declared.Triangle.{Triangle}
use Rattle.geometry.specs.Triangle.{triangle_area_of, centroid_of}
use Rattle.order.specs.Runs.{head_or}
use Rattle.planes_patches.specs.Lists.{filter_by}
use Rattle.planes_patches.specs.Triangles.{nth_triangle}
use Rattle.planes_patches.specs.Patch.{Patch}

-- `BURIED_PROBE_START`, 1e-3
abbrev pub buried_probe_start : Float
buried_probe_start = of_bits binary32 0x3a83_126f

-- the larger of the best so far and triangle i, the best where they are equal
unfoldable pub larger_of : List Triangle → Float × ℕ → ℕ → Float × ℕ
larger_of ts best i = let a = triangle_area_of (nth_triangle ts i) in cond (lt best.0 a) (a, i) best

-- `rep`: the first triangle of largest area
unfoldable pub largest_of : List Triangle → Patch → ℕ
largest_of ts p = (foldl (larger_of ts) (neg one32, head_or 0 p.tris) p.tris).1

-- `sign * n`
unfoldable pub signed_of : Float → Vec3 → Vec3
signed_of s n = vec (mul binary32 s n.x) (mul binary32 s n.y) (mul binary32 s n.z)

-- `ray(sign)`: from beside the centroid, along the triangle's own normal or against it
unfoldable pub probe_ray_of : Triangle → Float → Float → Ray
probe_ray_of t reach s =
    let d = signed_of s t.normal in
    record { origin = add3_of (centroid_of t) (scale3_of d buried_probe_start); direction = d; min_distance = zero32; max_distance = reach }

unfoldable pub is_buried : (Ray → Bool) → List Triangle → Float → Patch → Bool
is_buried probe ts reach p =
    let t = nth_triangle ts (largest_of ts p) in
    probe (probe_ray_of t reach one32) && probe (probe_ray_of t reach (neg one32))

-- `patches.retain`
unfoldable pub open_of : (Ray → Bool) → List Triangle → Float → List Patch → List Patch
open_of probe ts reach ps = cond (lt zero32 reach) (filter_by (λ p. not (is_buried probe ts reach p)) ps) ps
