-- `planes_ranked::put_ranked` meets its contract: the planes so far stand in their rows.
use Rattle.planes_ranked.proofs.Ranking.{Putting}
use Rattle.planes_ranked.proofs.put_ranked.Given as goal

abbrev pub invariant-loop-r : goal.invariant-loop-r
invariant-loop-r l =
    Putting l.triangles l.n l.group_floats l.group_words l.plane_triangles l.index l.first l.uses l.initial.plane_floats l.initial.plane_words l.initial.plane_edges l.plane_floats l.plane_words l.plane_edges l.at l.r
