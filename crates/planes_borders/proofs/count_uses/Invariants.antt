-- `planes_borders::count_uses` meets its contract: the loop holds the counts of the edges before e (`Counted`).
use Rattle.planes_borders.proofs.Counting.{Counted}
use Rattle.planes_borders.proofs.count_uses.Given as goal

abbrev pub invariant-loop-edge : goal.invariant-loop-edge
invariant-loop-edge l = Counted l.first l.uses l.edge-index
