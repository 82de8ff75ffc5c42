-- `scene::positions_right` meets its contract: each mesh takes its floats from what is left; at the end none may be left.
use mathlib.Core.Path.{◌≡◌}
use Prim.Native.Nat.{◌+◌, ◌*◌}
use lib.ListN.{drop}
use Rattle.scene.specs.Scene.{headers, vertex_sum}
use Rattle.scene.proofs.positions_right.Given as goal

-- what is left of n, and what the rest of the meshes still take
abbrev pub invariant-loop-i : goal.invariant-loop-i
invariant-loop-i l =
    (l.left + 3 * vertex_sum (headers l.meshes) ≡ l.n + 3 * vertex_sum (headers (drop (3 * l.i) l.meshes)))
