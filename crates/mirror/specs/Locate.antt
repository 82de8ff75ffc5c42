-- `locate_on_plane`. Document 01: 'Locating a point answers either off the surface, or the triangle with its edge weight and its point.'
-- A triangle is a function of its number.
use Rattle.std.specs.Prelude.{ℕ, Float, Bool, cond, ◌&&◌, List, [], ◌∷◌, Option, None, Some}
use Rattle.std.specs.Float.{binary32}
use Rattle.std.specs.Float.Ieee.{add, sub, mul, neg, lt, le, of_bits}
use Rattle.float.specs.Compare.{abs_of}
use Rattle.vector.specs.declared.Vec3.{Vec3}
use Rattle.vector.specs.declared.Ray.{Ray}
use Rattle.geometry.specs.declared.Triangle.{Triangle}
use Rattle.geometry.specs.declared.Edges.{Edges}
use Rattle.geometry.specs.Aabb.{two}
use Rattle.geometry.specs.Intersect.{Crossing, crossing_of, intersect_max_of}
use Rattle.geometry.specs.Contains.{contains_point_of}
use Rattle.mirror.specs.Plane.{Plane}
use Rattle.mirror.specs.Mirror.{along_of}
use Rattle.mirror.specs.Border.{weight_of}

-- the triangle that a fitted plane's point is moved onto, and how far along the normal
abbrev pub Snap : Type 0
Snap = Option (ℕ × Float)

-- the triangle that a point lies on, and the point there
abbrev pub Spot : Type 0
Spot = Option (ℕ × Vec3)

-- the triangle, the edge weight and the point
abbrev pub Located : Type 0
Located = Option (ℕ × Float × Vec3)

-- `PLANE_BOX_PAD`, 2e-3
abbrev pub box_pad : Float
box_pad = of_bits binary32 0x3b03_126f

-- `contains_in_box`, on one axis and on all
unfoldable pub within_of : Float → Float → Float → Bool
within_of x low high = le (sub binary32 low box_pad) x && le x (add binary32 high box_pad)

unfoldable pub contains_in_box_of : Plane → Vec3 → Bool
contains_in_box_of plane p =
    within_of p.x plane.box.min.x plane.box.max.x
    && (within_of p.y plane.box.min.y plane.box.max.y && within_of p.z plane.box.min.z plane.box.max.z)

-- ---- a fitted plane: the point is moved along the normal onto the nearest triangle

-- `best.map_or(true, |b| t.abs() < b.1.abs())`: the nearer on either side, the first of two as near
abbrev pub keep_of : Crossing → ℕ → Snap → Snap
keep_of None i best = best
keep_of (Some (t, u, v)) i None = Some (i, t)
keep_of (Some (t, u, v)) i (Some (j, s)) = cond (lt (abs_of t) (abs_of s)) (Some (i, t)) (Some (j, s))

-- `if let Some(t) = triangles[ti].intersect_max(&ray, reach)`
unfoldable pub snap_of : Triangle → Ray → ℕ → Snap → Snap
snap_of t ray i best = keep_of (intersect_max_of t ray ray.max_distance) i best

-- the same for a triangle by its first corner and its edges
unfoldable pub snap_edges_of : Vec3 → Edges → Ray → ℕ → Snap → Snap
snap_edges_of a e ray i best = keep_of (crossing_of a e ray ray.max_distance) i best

-- `for &ti in &plane.tris`
unfoldable pub snap_all_of : (ℕ → Triangle) → Ray → List ℕ → Snap → Snap
snap_all_of tri ray [] best = best
snap_all_of tri ray (i ∷ is) best = snap_all_of tri ray is (snap_of (tri i) ray i best)

-- `ray`: the line through p along the normal, as far as the triangles reach
unfoldable pub normal_ray_of : Plane → Vec3 → Ray
normal_ray_of plane p =
    let reach = add binary32 plane.spread (mul binary32 two box_pad) in
    record { origin = p; direction = plane.normal; min_distance = neg reach; max_distance = reach }

abbrev pub snapped_of : Plane → Vec3 → Snap → Spot
snapped_of plane p None = None
snapped_of plane p (Some (i, t)) = Some (i, along_of p plane.normal t)

-- ---- any other plane: the point stays

-- `plane.tris.iter().copied().find(|&ti| triangles[ti].contains_point(p))`
unfoldable pub find_of : (ℕ → Triangle) → Vec3 → List ℕ → Spot
find_of tri p [] = None
find_of tri p (i ∷ is) = cond (contains_point_of (tri i) p) (Some (i, p)) (find_of tri p is)

-- `let (tri, p) = if plane.fitted ..`
unfoldable pub spot_of : (ℕ → Triangle) → Plane → Vec3 → Spot
spot_of tri plane p =
    cond plane.fitted (snapped_of plane p (snap_all_of tri (normal_ray_of plane p) plane.tris None)) (find_of tri p plane.tris)

-- the spot of a point in the plane's box
unfoldable pub surface_of : (ℕ → Triangle) → Plane → Vec3 → Spot
surface_of tri plane p = cond (contains_in_box_of plane p) (spot_of tri plane p) None

abbrev pub weighed_of : (Vec3 → Float) → Spot → Located
weighed_of weight None = None
weighed_of weight (Some (i, q)) = Some (i, weight q, q)

-- `locate_on_plane`: the box is asked before the point is moved, the border after
unfoldable pub locate_on_plane_of : (ℕ → Triangle) → Float → Plane → Vec3 → Located
locate_on_plane_of tri fade plane p = cond (contains_in_box_of plane p) (weighed_of (weight_of plane.border fade) (spot_of tri plane p)) None
