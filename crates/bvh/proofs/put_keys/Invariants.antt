-- `bvh::put_keys` meets its contract: the keys so far are those of finite values, whose order they have (`float_key_leb`).
use mathlib.Core.Path.{◌≡◌}
use Prim.Native.Nat.{◌≤◌}
use lib.ListN.{length}
use Rattle.bvh.proofs.Laws as law
use Rattle.vector.specs.Vector.{axis_of}
use Rattle.bvh.specs.Bvh.{centroid_in}
use Rattle.bvh.proofs.put_keys.Given as goal

abbrev pub invariant-loop-i : goal.invariant-loop-i
invariant-loop-i l =
    (l.i ≤ l.count) × (length l.keys ≡ length l.initial.keys) × law.KeysTo (λ j. axis_of (centroid_in l.triangles l.handles l.n j) l.k) l.keys l.i
