-- The one of a normal and its opposite that stands for both: its part of largest size is not negative.
use Rattle.std.specs.Prelude.{Bool, cond, Float}
use Rattle.std.specs.Float.Ieee.{neg, lt}
use Rattle.float.specs.Literals.{zero32}
use Rattle.float.specs.Compare.{abs_of}
use Rattle.vector.specs.declared.Vec3.{Vec3}
use Rattle.vector.specs.Vector.{vec, dot3_of}
use Rattle.geometry.specs.declared.Triangle.{Triangle}

-- the one of larger size, the first of equal ones
unfoldable pub larger_part_of : Float → Float → Float
larger_part_of p q = cond (lt (abs_of p) (abs_of q)) q p

-- `n[axis]`: the part of largest size, the first of equal ones
unfoldable pub largest_part_of : Vec3 → Float
largest_part_of n = larger_part_of (larger_part_of n.x n.y) n.z

-- `n[axis] < 0.0`
unfoldable pub is_turned_round : Vec3 → Bool
is_turned_round n = lt (largest_part_of n) zero32

-- `[-n[0], -n[1], -n[2]]`
unfoldable pub neg3_of : Vec3 → Vec3
neg3_of n = vec (neg n.x) (neg n.y) (neg n.z)

unfoldable pub canonical_of : Vec3 → Vec3
canonical_of n = cond (is_turned_round n) (neg3_of n) n

-- `d`: a triangle's offset along its canonical normal
unfoldable pub offset_of : Triangle → Float
offset_of t = let d = dot3_of t.normal t.a in cond (is_turned_round t.normal) (neg d) d
