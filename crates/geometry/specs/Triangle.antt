-- Triangles: `Triangle::new`, `is_degenerate`, `centroid` and `triangle_area` of cpu_simd.rs.
use Rattle.std.specs.Prelude.{ℕ, Float, Bool, cond, not, Option, None, Some}
use Rattle.std.specs.Float.{binary32}
use Rattle.std.specs.Float.Ieee.{add, mul, div, lt, of_bits}
use Rattle.float.specs.Literals.{zero32, one32}
use Rattle.vector.specs.declared.Vec3.{Vec3}
use Rattle.vector.specs.Vector.{vec, sub3_of, cross3_of, length3_of, tiny}
use Rattle.geometry.specs.declared.Triangle.{Triangle}

abbrev pub half : Float
half = of_bits binary32 0x3f00_0000

abbrev pub three : Float
three = of_bits binary32 0x4040_0000

-- the product of the two edges from the first corner, whose length is twice the area
unfoldable pub cross_of : Vec3 → Vec3 → Vec3 → Vec3
cross_of a b c = cross3_of (sub3_of b a) (sub3_of c a)

-- `Triangle::is_degenerate`: not above 1e-12 (so a NaN is degenerate too)
unfoldable pub is_degenerate_of : Vec3 → Vec3 → Vec3 → Bool
is_degenerate_of a b c = not (lt tiny (length3_of (cross_of a b c)))

-- the normal of `Triangle::new`, and +y for a degenerate triangle
unfoldable pub normal_of : Vec3 → Vec3
normal_of n =
    let len = length3_of n in
    cond (lt tiny len) (vec (div binary32 n.x len) (div binary32 n.y len) (div binary32 n.z len)) (vec zero32 one32 zero32)

-- `Triangle::new`
unfoldable pub triangle_of_corners : Vec3 → Vec3 → Vec3 → ℕ → Triangle
triangle_of_corners p q r h = record { a = p; b = q; c = r; normal = normal_of (cross_of p q r); material_handle = h }

-- three corners: degenerate, or a triangle
abbrev pub shape_of : Vec3 → Vec3 → Vec3 → ℕ → Option Triangle
shape_of p q r h = cond (is_degenerate_of p q r) None (Some (triangle_of_corners p q r h))

-- `triangle_area`
unfoldable pub triangle_area_of : Triangle → Float
triangle_area_of t = mul binary32 half (length3_of (cross_of t.a t.b t.c))

-- `Triangle::centroid`
unfoldable pub third_of : Float → Float → Float → Float
third_of a b c = div binary32 (add binary32 (add binary32 a b) c) three

unfoldable pub centroid_of : Triangle → Vec3
centroid_of t = vec (third_of t.a.x t.b.x t.c.x) (third_of t.a.y t.b.y t.c.y) (third_of t.a.z t.b.z t.c.z)
