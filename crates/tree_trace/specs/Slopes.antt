-- The test of a ray and a padded box with the reciprocals of the ray's direction at hand, and one comparison at its end: `slab_of` for a ray
-- that ends no sooner than it begins (`past_is` of `proofs/Slopes.antt`).
use Rattle.std.specs.Prelude.{Float, Bool, true, false, cond, ◌||◌, Option, None, Some}
use Rattle.std.specs.Float.{nan, binary32}
use Rattle.std.specs.Float.Ieee.{sub, mul, div, lt}
use Rattle.float.specs.Literals.{one32}
use Rattle.float.specs.Compare.{min_of, max_of, abs_of}
use Rattle.vector.specs.declared.Vec3.{Vec3}
use Rattle.vector.specs.declared.Ray.{Ray}
use Rattle.vector.specs.Vector.{vec}
use Rattle.geometry.specs.declared.Aabb.{Aabb}
use Rattle.geometry.specs.Slab.{along_axis}
use Rattle.tree_trace.specs.declared.Way.{Way}

-- a ray that does not move on an axis, as `axis_of` has it
unfoldable pub along_of : Float → Bool
along_of d = lt (abs_of d) along_axis

unfoldable pub any_along_of : Vec3 → Bool
any_along_of d = cond (along_of d.x) true (cond (along_of d.y) true (along_of d.z))

-- the reciprocal, and NaN where the ray does not move: `min` and `max` then leave the span as it is
unfoldable pub slope_of : Float → Float
slope_of d = cond (along_of d) nan (div binary32 one32 d)

unfoldable pub slopes_of_direction : Vec3 → Vec3
slopes_of_direction d = vec (slope_of d.x) (slope_of d.y) (slope_of d.z)

unfoldable pub way_of : Ray → Way
way_of ray = record { ray = ray; slopes = slopes_of_direction ray.direction; along = any_along_of ray.direction }

-- where the ray passes x on an axis
abbrev pub pass_of : Float → Float → Float → Float
pass_of x o inv = mul binary32 (sub binary32 x o) inv

-- a span's ends, cut by an axis
abbrev pub near_of : Float → Float → Float → Float → Float → Float
near_of near low high o inv = max_of near (min_of (pass_of low o inv) (pass_of high o inv))

abbrev pub far_of : Float → Float → Float → Float → Float → Float
far_of far low high o inv = min_of far (max_of (pass_of low o inv) (pass_of high o inv))

abbrev pub span_of : Float → Float → Option Float
span_of near far = cond (lt far near) None (Some near)

-- all three axes, and the comparison
unfoldable pub cut_of : Aabb → Ray → Vec3 → Float → Option Float
cut_of b ray inv t =
    span_of
    (near_of
    (near_of (near_of ray.min_distance b.min.x b.max.x ray.origin.x inv.x) b.min.y b.max.y ray.origin.y inv.y)
    b.min.z b.max.z ray.origin.z inv.z)
    (far_of (far_of (far_of t b.min.x b.max.x ray.origin.x inv.x) b.min.y b.max.y ray.origin.y inv.y) b.min.z b.max.z ray.origin.z inv.z)

-- a ray that does not move on an axis, outside the box on that axis
unfoldable pub beside_of : Float → Float → Float → Float → Bool
beside_of low high o d = cond (along_of d) (lt o low || lt high o) false

unfoldable pub past_of : Option Float → Aabb → Ray → Option Float
past_of e b ray =
    cond (beside_of b.min.x b.max.x ray.origin.x ray.direction.x) None
    (cond (beside_of b.min.y b.max.y ray.origin.y ray.direction.y) None
    (cond (beside_of b.min.z b.max.z ray.origin.z ray.direction.z) None e))
