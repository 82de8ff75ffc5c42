-- How far a point is from the border of a plane's surface (`point_segment_distance`), and the weight that this gives it: the second half of
-- `locate_on_plane`.
use Rattle.std.specs.Prelude.{Float, false, cond, List}
use Rattle.std.specs.Float.{inf, binary32}
use Rattle.std.specs.Float.Ieee.{sub, mul, div, lt, of_bits}
use mathlib.Core.List.{foldl}
use Rattle.float.specs.Literals.{zero32, one32}
use Rattle.float.specs.Compare.{min_of, clamp_of}
use Rattle.vector.specs.declared.Vec3.{Vec3}
use Rattle.vector.specs.Vector.{dot3_of, sub3_of, distance3_of}
use Rattle.geometry.specs.Aabb.{two}
use Rattle.geometry.specs.Triangle.{three}
use Rattle.mirror.specs.Plane.{Edge}
use Rattle.mirror.specs.Mirror.{along_of}

-- 1e-20
abbrev pub least_length2 : Float
least_length2 = of_bits binary32 0x1e3c_e508

-- `t` of `point_segment_distance`: how far along the segment from a by ab the point nearest to p is, from 0 to 1
unfoldable pub nearest_of : Vec3 → Vec3 → Vec3 → Float
nearest_of p a ab =
    let len2 = dot3_of ab ab in
    cond (lt least_length2 len2) (clamp_of (div binary32 (dot3_of (sub3_of p a) ab) len2) zero32 one32) zero32

-- `point_segment_distance`
unfoldable pub point_segment_distance_of : Vec3 → Vec3 → Vec3 → Float
point_segment_distance_of p a b =
    let ab = sub3_of b a in
    distance3_of p (along_of a ab (nearest_of p a ab))

-- `dist.min(point_segment_distance(p, *a, *b))`
unfoldable pub nearer_of : Vec3 → Float → Edge → Float
nearer_of p d e = min_of d (point_segment_distance_of p e.start e.end)

-- `dist`: the least distance from the edges, infinite where there is none
unfoldable pub border_distance_of : Vec3 → List Edge → Float
border_distance_of p es = foldl (nearer_of p) (inf false) es

-- `s * s * (3.0 - 2.0 * s)`: from 0 at the border to 1 at the distance `fade`
unfoldable pub smooth_of : Float → Float → Float
smooth_of d fade =
    let s = clamp_of (div binary32 d fade) zero32 one32 in
    mul binary32 (mul binary32 s s) (sub binary32 three (mul binary32 two s))

-- the edge window of `locate_on_plane`: 1 where `reflection_edge_fade` is not above 0
unfoldable pub weight_of : List Edge → Float → Vec3 → Float
weight_of es fade p = cond (lt zero32 fade) (smooth_of (border_distance_of p es) fade) one32
