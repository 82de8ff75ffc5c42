-- A ray and a box: `Aabb::intersect_t`, in two steps. The box is padded (what the Rust does axis by axis in each test), then the ray's
-- span from its least distance to `t_max` is cut axis by axis.
use Rattle.std.specs.Prelude.{Float, cond, ◌||◌, Option, None, Some, option_map, option_and_then}
use Rattle.std.specs.Float.{binary32}
use Rattle.std.specs.Float.Ieee.{add, sub, mul, div, lt, of_bits}
use Rattle.float.specs.Literals.{one32}
use Rattle.float.specs.Compare.{min_of, max_of, abs_of}
use Rattle.vector.specs.declared.Ray.{Ray}
use Rattle.vector.specs.Vector.{vec}
use Rattle.geometry.specs.declared.Aabb.{Aabb}
use Rattle.geometry.specs.Aabb.{box}

-- a part of a ray, by its two distances, or nothing
abbrev pub Span : Type 0
Span = Option (Float × Float)

-- `AABB_PAD`, 1e-6
abbrev pub aabb_pad : Float
aabb_pad = of_bits binary32 0x3586_37bd

-- 1e-20
abbrev pub along_axis : Float
along_axis = of_bits binary32 0x1e3c_e508

unfoldable pub pad_of : Float → Float → Float
pad_of low high = mul binary32 aabb_pad (add binary32 one32 (max_of (abs_of low) (abs_of high)))

unfoldable pub padded_of : Aabb → Aabb
padded_of b =
    let x = pad_of b.min.x b.max.x in
    let y = pad_of b.min.y b.max.y in
    let z = pad_of b.min.z b.max.z in
    box (vec (sub binary32 b.min.x x) (sub binary32 b.min.y y) (sub binary32 b.min.z z))
    (vec (add binary32 b.max.x x) (add binary32 b.max.y y) (add binary32 b.max.z z))

-- the part of a span that lies between two distances
unfoldable pub narrow_of : Float → Float → Float → Float → Span
narrow_of t1 t2 tmin tmax =
    let near = max_of tmin (min_of t1 t2) in
    let far = min_of tmax (max_of t1 t2) in
    cond (lt far near) None (Some (near, far))

-- one axis: the ends of the box, and the ray's origin and direction on this axis. A ray along the others is inside for its whole length
-- or misses.
unfoldable pub axis_of : Float → Float → Float → Float → Float → Float → Span
axis_of low high o d tmin tmax =
    let inv = div binary32 one32 d in
    cond (lt (abs_of d) along_axis)
    (cond (lt o low || lt high o) None (Some (tmin, tmax)))
    (narrow_of (mul binary32 (sub binary32 low o) inv) (mul binary32 (sub binary32 high o) inv) tmin tmax)

-- the test against a padded box: where the span that is left begins
unfoldable pub slab_of : Aabb → Ray → Float → Option Float
slab_of b ray tmax =
    option_map (λ s. s.0)
    (option_and_then (λ s. axis_of b.min.z b.max.z ray.origin.z ray.direction.z s.0 s.1)
    (option_and_then (λ s. axis_of b.min.y b.max.y ray.origin.y ray.direction.y s.0 s.1)
    (axis_of b.min.x b.max.x ray.origin.x ray.direction.x ray.min_distance tmax)))

-- `Aabb::intersect_t`
unfoldable pub intersect_tof : Aabb → Ray → Float → Option Float
intersect_tof b ray tmax = slab_of (padded_of b) ray tmax
