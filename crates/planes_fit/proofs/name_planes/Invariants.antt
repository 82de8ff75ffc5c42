-- `planes_fit::name_planes` meets its contract: the triangles so far have their plane's number.
use Rattle.planes_fit.proofs.Naming.{Planed}
use Rattle.planes_fit.proofs.name_planes.Given as goal

abbrev pub invariant-loop-t : goal.invariant-loop-t
invariant-loop-t l = Planed l.of l.group_of l.initial.plane_of l.plane_of l.m l.t
