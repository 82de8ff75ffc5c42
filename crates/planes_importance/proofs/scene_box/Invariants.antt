-- `planes_importance::scene_box` meets its contract: the box so far is that of the triangles so far.
use mathlib.Core.Path.{◌≡◌}
use Prim.Native.Nat.{◌≤◌}
use Rattle.planes_patches.specs.Triangles.{triangles_in}
use Rattle.planes_importance.specs.Importance.{scene_box_of}
use Rattle.planes_importance.proofs.scene_box.Given as goal

abbrev pub invariant-loop-i : goal.invariant-loop-i
invariant-loop-i l = (l.b ≡ scene_box_of (triangles_in l.triangles l.handles l.n l.i)) × (l.i ≤ l.m)
