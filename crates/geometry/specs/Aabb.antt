-- Axis-aligned boxes: `Aabb` of cpu_simd.rs.
use Rattle.std.specs.Prelude.{Float, List, [], ◌∷◌}
use Rattle.std.specs.Float.{binary32}
use Rattle.std.specs.Float.Ieee.{add, sub, mul, of_bits}
use mathlib.Core.List.{foldl}
use Rattle.float.specs.Literals.{zero32}
use Rattle.float.specs.Compare.{min_of, max_of}
use Rattle.vector.specs.declared.Vec3.{Vec3}
use Rattle.vector.specs.Vector.{vec}
use Rattle.geometry.specs.declared.Aabb.{Aabb}

-- `f32::MAX` and `f32::MIN`
abbrev pub most : Float
most = of_bits binary32 0x7f7f_ffff

abbrev pub least : Float
least = of_bits binary32 0xff7f_ffff

abbrev pub two : Float
two = of_bits binary32 0x4000_0000

abbrev pub box : Vec3 → Vec3 → Aabb
box a b = record { min = a; max = b }

-- the lesser, and the greater, of two on each axis
unfoldable pub low_of : Vec3 → Vec3 → Vec3
low_of a b = vec (min_of a.x b.x) (min_of a.y b.y) (min_of a.z b.z)

unfoldable pub high_of : Vec3 → Vec3 → Vec3
high_of a b = vec (max_of a.x b.x) (max_of a.y b.y) (max_of a.z b.z)

-- `Aabb::new_empty`
unfoldable pub new_empty_of : Aabb
new_empty_of = box (vec most most most) (vec least least least)

-- `Aabb::union`
unfoldable pub union_of : Aabb → Aabb → Aabb
union_of a b = box (low_of a.min b.min) (high_of a.max b.max)

-- one turn of the loop of `Aabb::from_points`
unfoldable pub grow_of : Aabb → Vec3 → Aabb
grow_of b p = box (low_of b.min p) (high_of b.max p)

-- `Aabb::from_points`
abbrev pub from_points : List Vec3 → Aabb
from_points ps = foldl grow_of new_empty_of ps

-- of one point, and of a triangle's corners (`Triangle::aabb`)
unfoldable pub from_point_of : Vec3 → Aabb
from_point_of p = from_points (p ∷ [])

unfoldable pub from_corners_of : Vec3 → Vec3 → Vec3 → Aabb
from_corners_of a b c = from_points (a ∷ b ∷ c ∷ [])

-- `Aabb::surface_area`
unfoldable pub extent_of : Float → Float → Float
extent_of high low = max_of (sub binary32 high low) zero32

unfoldable pub surface_area_of : Aabb → Float
surface_area_of b =
    let dx = extent_of b.max.x b.min.x in
    let dy = extent_of b.max.y b.min.y in
    let dz = extent_of b.max.z b.min.z in
    mul binary32 two (add binary32 (add binary32 (mul binary32 dx dy) (mul binary32 dx dz)) (mul binary32 dy dz))
