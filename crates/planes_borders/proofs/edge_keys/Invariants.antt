-- `planes_borders::edge_keys` meets its contract: the loop holds the keys of the sides of the triangles before t (`Keyed`).
use Rattle.planes_borders.proofs.Keying.{Keyed}
use Rattle.planes_borders.proofs.edge_keys.Given as goal

abbrev pub invariant-loop-t : goal.invariant-loop-t
invariant-loop-t l = Keyed l.numbers l.n l.of l.initial.keys l.initial.low_keys l.keys l.low_keys l.t
