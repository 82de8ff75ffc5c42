-- `planes_faces::face_keys` meets its contract: the loop holds that the keys of the first i faces are there.
use Prim.Native.Nat.{◌≤◌}
use Rattle.planes_faces.proofs.Packing.{Keys}
use Rattle.planes_faces.proofs.face_keys.Given as goal

abbrev pub invariant-loop-i : goal.invariant-loop-i
invariant-loop-i l = (l.i ≤ l.n) × Keys l.numbers l.n l.i l.initial.keys l.initial.low_keys l.keys l.low_keys
