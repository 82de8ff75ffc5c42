-- `planes_patches::coplanar_patches` meets its contract: the loop holds that the areas have the patches of the triangles before t (`Filling`).
use Rattle.planes_patches.specs.Triangles.{triangles_in}
use Rattle.planes_patches.proofs.Filling.{Filling}
use Rattle.planes_patches.proofs.coplanar_patches.Given as goal

abbrev pub invariant-loop-t : goal.invariant-loop-t
invariant-loop-t l =
    Filling (triangles_in l.triangles l.handles l.n l.m) l.first l.m l.initial.rows l.initial.of l.initial.cells l.initial.next l.rows l.of l.cells l.heads l.next l.t l.np
