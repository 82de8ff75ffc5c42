-- A point as three floats.
use Rattle.std.specs.Prelude.{Float, get_or, List}
use Rattle.std.specs.Float.{nan}
use Rattle.vector.specs.declared.Vec3.{Vec3}
use Rattle.vector.specs.Vector.{vec}

unfoldable pub given_point : List Float → Vec3
given_point l = vec (get_or l 0 nan) (get_or l 1 nan) (get_or l 2 nan)
