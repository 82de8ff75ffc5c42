-- A ray and a triangle: `Triangle::intersect_max`. `edges_of_corners` is what it works out of the triangle alone; `crossing_of` is the rest. Beside
-- the distance stand the weights u and v of the two edges, which the Rust works out too.
use Rattle.std.specs.Prelude.{Float, Bool, cond, not, ◌||◌, ◌&&◌, Option, None, Some}
use Rattle.std.specs.Float.{binary32}
use Rattle.std.specs.Float.Ieee.{add, mul, div, neg, lt, le, of_bits}
use Rattle.float.specs.Literals.{one32}
use Rattle.float.specs.Sqrt.{sqrt_of}
use Rattle.float.specs.Compare.{abs_of}
use Rattle.vector.specs.declared.Vec3.{Vec3}
use Rattle.vector.specs.declared.Ray.{Ray}
use Rattle.vector.specs.Vector.{dot3_of, sub3_of, cross3_of}
use Rattle.geometry.specs.declared.Triangle.{Triangle}
use Rattle.geometry.specs.declared.Edges.{Edges}

-- a crossing: the distance, and the weights u and v
abbrev pub Crossing : Type 0
Crossing = Option (Float × Float × Float)

-- `BARY_EPS`, 1e-5
abbrev pub bary_eps : Float
bary_eps = of_bits binary32 0x3727_c5ac

-- 1e-9
abbrev pub nano : Float
nano = of_bits binary32 0x3089_705f

-- the edges, and `1e-9 * scale`
unfoldable pub edges_of_corners : Vec3 → Vec3 → Vec3 → Edges
edges_of_corners a b c =
    let e1 = sub3_of b a in
    let e2 = sub3_of c a in
    record { edge1 = e1; edge2 = e2; least_det = mul binary32 nano (sqrt_of (mul binary32 (dot3_of e1 e1) (dot3_of e2 e2))) }

-- `!(det.abs() > 1e-9 * scale)`
unfoldable pub parallel_of : Float → Float → Bool
parallel_of det least = not (lt least (abs_of det))

-- `a < -BARY_EPS || b > 1.0 + BARY_EPS`
unfoldable pub outside_of : Float → Float → Bool
outside_of a b = lt a (neg bary_eps) || lt (add binary32 one32 bary_eps) b

-- a distance within the ray's span is a crossing
unfoldable pub within_of : Float → Float → Float → Float → Float → Crossing
within_of t u v tmin tmax = cond (le tmin t && le t tmax) (Some (t, u, v)) None

-- from u on: h is the direction's product with the second edge, s the way from the first corner to the ray's origin
unfoldable pub solve_of : Edges → Vec3 → Vec3 → Float → Ray → Float → Crossing
solve_of e h s inv ray tmax =
    let u = mul binary32 (dot3_of s h) inv in
    let q = cross3_of s e.edge1 in
    let v = mul binary32 (dot3_of ray.direction q) inv in
    cond (outside_of u u) None
    (cond (outside_of v (add binary32 u v)) None (within_of (mul binary32 (dot3_of e.edge2 q) inv) u v ray.min_distance tmax))

-- the test, for a triangle by its first corner and its edges
unfoldable pub crossing_of : Vec3 → Edges → Ray → Float → Crossing
crossing_of a e ray tmax =
    let h = cross3_of ray.direction e.edge2 in
    let det = dot3_of e.edge1 h in
    cond (parallel_of det e.least_det) None (solve_of e h (sub3_of ray.origin a) (div binary32 one32 det) ray tmax)

-- `Triangle::intersect_max`
unfoldable pub intersect_max_of : Triangle → Ray → Float → Crossing
intersect_max_of t ray tmax = crossing_of t.a (edges_of_corners t.a t.b t.c) ray tmax
