-- `stages::course_of` meets its contract: the first k planes are there, and the images of their beginnings.
use Prim.Native.Nat.{◌≤◌}
use lib.ListN.{length}
use Rattle.vector.specs.declared.Vec3.{Vec3}
use Rattle.stages.specs.Paths.{Coursed}
use Rattle.stages.proofs.Courses.{course}
use Rattle.stages.proofs.course_of.Given as goal

abbrev pub invariant-loop-k : goal.invariant-loop-k
invariant-loop-k l =
    (l.k ≤ length l.seq)
    × ((source : Vec3) → Coursed l.plane_floats l.plane_words l.count source l.seq 0 (course l.initial.planes l.initial.images) → Coursed l.plane_floats l.plane_words l.count source l.seq l.k (course l.planes l.images))
