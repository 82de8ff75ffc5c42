-- `planes_faces::point_keys` meets its contract: the loop holds that the keys of the first i points are there, and that nothing before them is changed.
use Prim.Native.Nat.{◌≤◌}
use Rattle.planes_faces.proofs.Corners.{Made}
use Rattle.planes_faces.proofs.point_keys.Given as goal

abbrev pub invariant-loop-i : goal.invariant-loop-i
invariant-loop-i l = (l.i ≤ l.n) × Made l.triangles l.n l.at l.put l.scale l.i l.initial.keys l.initial.low_keys l.keys l.low_keys
