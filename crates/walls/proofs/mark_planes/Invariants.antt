-- `walls::mark_planes` meets its contract. The loop's invariant: the bytes before p are those of their planes.
use Prim.Native.Nat.{ℕ, ◌<◌, ◌≤◌}
use mathlib.Core.Path.{◌≡◌}
use mathlib.Core.List.{List}
use lib.Ieee.{Float}
use lib.ListN.{length, get_or}
use Rattle.mirror.specs.Rows.{planes_in}
use Rattle.search.specs.Outcome.{on_bytes}
use Rattle.walls.proofs.mark_planes.Given as goal

abbrev pub invariant-loop-p : goal.invariant-loop-p
invariant-loop-p l =
    (l.p ≤ length l.initial.on) × (length l.on ≡ length l.initial.on) × ((members : List ℕ) (edges : List Float) (i : ℕ) → i < l.p → get_or l.on i 0 ≡ get_or (on_bytes (planes_in l.floats l.words members edges (length l.initial.on)) l.source) i 0)
