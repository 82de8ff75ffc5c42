-- `mirror::border_distance` meets its contract: the edges from here on give what all give.
use mathlib.Core.Path.{◌≡◌}
use mathlib.Core.List.{foldl}
use Prim.Native.Nat.{◌+◌, ◌-◌}
use Rattle.mirror.specs.Border.{nearer_of}
use Rattle.mirror.specs.Rows.{edges_in}
use Rattle.mirror.proofs.border_distance.Given as goal

abbrev pub invariant-loop-k : goal.invariant-loop-k
invariant-loop-k l =
    foldl (nearer_of l.p) l.dist (edges_in l.plane_edges (l.first + l.k) (l.count - l.k)) ≡ foldl (nearer_of l.p) l.initial.dist (edges_in l.plane_edges l.first l.count)

abbrev pub decreases-loop-k : goal.decreases-loop-k
decreases-loop-k l = l.count - l.k
