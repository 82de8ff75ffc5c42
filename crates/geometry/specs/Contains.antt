-- A point of a triangle's plane and the triangle: `Triangle::contains_point`. `dots_of_edges` is what it works out of the triangle alone.
use Rattle.std.specs.Prelude.{Float, Bool, ◌&&◌}
use Rattle.std.specs.Float.{binary32}
use Rattle.std.specs.Float.Ieee.{add, sub, mul, div, neg, lt, le, of_bits}
use Rattle.float.specs.Literals.{one32}
use Rattle.float.specs.Compare.{abs_of}
use Rattle.vector.specs.declared.Vec3.{Vec3}
use Rattle.vector.specs.Vector.{dot3_of, sub3_of}
use Rattle.geometry.specs.declared.Triangle.{Triangle}
use Rattle.geometry.specs.declared.Edges.{Edges}
use Rattle.geometry.specs.declared.Dots.{Dots}
use Rattle.geometry.specs.Intersect.{bary_eps, edges_of_corners}

-- 1e-20
abbrev pub least_denom : Float
least_denom = of_bits binary32 0x1e3c_e508

-- d00, d01, d11 and denom: v0 is the second edge and v1 the first
unfoldable pub dots_of_edges : Edges → Dots
dots_of_edges e =
    let d00 = dot3_of e.edge2 e.edge2 in
    let d01 = dot3_of e.edge2 e.edge1 in
    let d11 = dot3_of e.edge1 e.edge1 in
    record { d00 = d00; d01 = d01; d11 = d11; denom = sub binary32 (mul binary32 d00 d11) (mul binary32 d01 d01) }

-- `u >= -BARY_EPS && v >= -BARY_EPS && u + v <= 1.0 + BARY_EPS`
unfoldable pub inside_of : Float → Float → Bool
inside_of u v = le (neg bary_eps) u && (le (neg bary_eps) v && le (add binary32 u v) (add binary32 one32 bary_eps))

-- the test, for a triangle by its first corner, its edges and their products
unfoldable pub contains_of : Vec3 → Edges → Dots → Vec3 → Bool
contains_of a e d p =
    let v2 = sub3_of p a in
    let d20 = dot3_of v2 e.edge2 in
    let d21 = dot3_of v2 e.edge1 in
    lt least_denom (abs_of d.denom)
    && inside_of (div binary32 (sub binary32 (mul binary32 d.d11 d20) (mul binary32 d.d01 d21)) d.denom)
    (div binary32 (sub binary32 (mul binary32 d.d00 d21) (mul binary32 d.d01 d20)) d.denom)

-- `Triangle::contains_point`
unfoldable pub contains_point_of : Triangle → Vec3 → Bool
contains_point_of t p = let e = edges_of_corners t.a t.b t.c in contains_of t.a e (dots_of_edges e) p
