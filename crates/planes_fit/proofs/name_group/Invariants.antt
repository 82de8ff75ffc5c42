-- `planes_fit::name_group` meets its contract: the patches so far have the number.
use Rattle.planes_fit.proofs.Naming.{Named}
use Rattle.planes_fit.proofs.name_group.Given as goal

abbrev pub invariant-loop-patch : goal.invariant-loop-patch
invariant-loop-patch l = Named l.group l.number l.initial.group_of l.group_of l.patch-index
