-- `planes_borders::put_border` meets its contract: the loop holds the border of the first k triangles.
use mathlib.Core.Path.{◌≡◌}
use Prim.Native.Nat.{◌*◌, ◌+◌, ◌≤◌}
use lib.ListN.{length, take}
use Rattle.planes_borders.specs.Uses.{Appended, border_in}
use Rattle.planes_borders.proofs.put_border.Given as goal

abbrev pub invariant-loop-t : goal.invariant-loop-t
invariant-loop-t l = (l.t-index ≤ length l.tris) × (l.r ≤ l.at + 3 * l.t-index) × (length l.plane_edges ≡ length l.initial.plane_edges) × Appended l.initial.plane_edges l.plane_edges l.at l.r (border_in l.triangles l.n l.first l.uses (take l.t-index l.tris))
