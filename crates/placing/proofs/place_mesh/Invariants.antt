-- `placing::place_mesh` meets its contract: a loop over the triples: the run of the rest from here is the run of the whole.
use mathlib.Core.Path.{◌≡◌}
use Prim.Native.Nat.{◌+◌, ◌*◌, ◌≤◌}
use lib.ListN.{length, drop}
use Rattle.placing.specs.Corners.{triples, corners_of}
use Rattle.placing.specs.Passing.{world, run}
use Rattle.placing.proofs.place_mesh.Given as goal

abbrev pub invariant-loop-t : goal.invariant-loop-t
invariant-loop-t l =
    (length l.triangles ≡ length l.initial.triangles)
    × (length l.handles ≡ length l.initial.handles)
    × (l.st.kept + length (triples (drop (3 * l.t) l.indices)) ≤ l.initial.st.kept + length (triples l.indices))
    × (l.st.placings + 3 * length (triples (drop (3 * l.t) l.indices)) ≤ l.initial.st.placings + 3 * length (triples l.indices))
    × (run l.n (world l.triangles l.handles l.st) (corners_of l.vertices l.positions l.transform l.handle (triples (drop (3 * l.t) l.indices)))
    ≡ run l.n (world l.initial.triangles l.initial.handles l.initial.st) (corners_of l.vertices l.positions l.transform l.handle (triples l.indices)))
