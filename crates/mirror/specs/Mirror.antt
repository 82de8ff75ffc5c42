-- The sides of a mirror plane: `ReflectPlane::signed_distance` and `mirror`, and where `validate_image_path` crosses a plane.
use Rattle.std.specs.Prelude.{Float, cond, ◌||◌, Option, None, Some}
use Rattle.std.specs.Float.{binary32}
use Rattle.std.specs.Float.Ieee.{sub, mul, div, lt, of_bits}
use Rattle.float.specs.Literals.{zero32}
use Rattle.float.specs.Compare.{abs_of}
use Rattle.vector.specs.declared.Vec3.{Vec3}
use Rattle.vector.specs.Vector.{vec, dot3_of, sub3_of, add3_of, scale3_of}
use Rattle.geometry.specs.Aabb.{two}
use Rattle.mirror.specs.Plane.{Plane}

-- `PLANE_SIDE_EPS`, 1e-4: what is nearer lies on the plane
abbrev pub side_eps : Float
side_eps = of_bits binary32 0x38d1_b717

-- `ReflectPlane::signed_distance`
unfoldable pub signed_distance_of : Plane → Vec3 → Float
signed_distance_of plane p = sub binary32 (dot3_of plane.normal p) plane.offset

-- p less d times the normal
abbrev pub moved_by : Vec3 → Vec3 → Float → Vec3
moved_by n p d = vec (sub binary32 p.x (mul binary32 d n.x)) (sub binary32 p.y (mul binary32 d n.y)) (sub binary32 p.z (mul binary32 d n.z))

-- `ReflectPlane::mirror`
unfoldable pub mirror_of : Plane → Vec3 → Vec3
mirror_of plane p = moved_by plane.normal p (mul binary32 two (signed_distance_of plane p))

-- `o + d * t`, part by part
unfoldable pub along_of : Vec3 → Vec3 → Float → Vec3
along_of o d t = add3_of o (scale3_of d t)

-- `!(da * db < 0.0) || da.abs() < PLANE_SIDE_EPS || db.abs() < PLANE_SIDE_EPS` is no crossing; else the point `b` of `validate_image_path`
unfoldable pub crossing_of : Plane → Vec3 → Vec3 → Option Vec3
crossing_of plane prev target =
    let da = signed_distance_of plane prev in
    let db = signed_distance_of plane target in
    cond (lt (mul binary32 da db) zero32)
    (cond (lt (abs_of da) side_eps || lt (abs_of db) side_eps) None (Some (along_of prev (sub3_of target prev) (div binary32 da (sub binary32 da db)))))
    None
