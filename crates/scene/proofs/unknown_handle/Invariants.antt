-- `scene::unknown_handle` meets its contract: a loop over the headers: the rest from here has an unknown handle just where the whole has.
use mathlib.Core.Path.{◌≡◌}
use Prim.Native.Nat.{◌*◌}
use lib.ListN.{drop}
use Rattle.scene.specs.Scene.{headers}
use Rattle.scene.specs.Refusals.{has_unknown_handle}
use Rattle.scene.proofs.unknown_handle.Given as goal

abbrev pub invariant-loop-i : goal.invariant-loop-i
invariant-loop-i l = (has_unknown_handle l.rows (headers (drop (3 * l.i) l.meshes)) ≡ has_unknown_handle l.rows (headers l.meshes))
