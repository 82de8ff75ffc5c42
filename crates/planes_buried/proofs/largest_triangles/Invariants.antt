-- `planes_buried::largest_triangles` meets its contract: the loop holds it for the triangles before t (`Meeting`).
use Rattle.planes_patches.specs.Triangles.{triangles_in}
use Rattle.planes_buried.proofs.Best.{Meeting}
use Rattle.planes_buried.proofs.largest_triangles.Given as goal

abbrev pub invariant-loop-t : goal.invariant-loop-t
invariant-loop-t l = Meeting (triangles_in l.triangles l.handles l.n l.m) l.of l.m l.np l.initial.areas l.initial.largest l.areas l.largest l.t
