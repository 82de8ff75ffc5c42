-- `scene::indices_right` meets its contract: each mesh takes its indices from what is left; at the end none may be left.
use mathlib.Core.Path.{◌≡◌}
use Prim.Native.Nat.{◌*◌, ◌+◌}
use lib.ListN.{drop}
use Rattle.scene.specs.Scene.{headers, index_sum}
use Rattle.scene.proofs.indices_right.Given as goal

-- what is left of n, and what the rest of the meshes still take
abbrev pub invariant-loop-i : goal.invariant-loop-i
invariant-loop-i l =
    (l.left + index_sum (headers l.meshes) ≡ l.n + index_sum (headers (drop (3 * l.i) l.meshes)))
