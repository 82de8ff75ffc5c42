-- `placing::place_all` meets its contract: a loop over the meshes: the run of the rest from here is the run of the whole (`Going` of proofs/Passes.antt).
use Prim.Native.Nat.{◌*◌}
use Rattle.placing.proofs.Passes.{Going}
use Rattle.placing.proofs.place_all.Given as goal

abbrev pub invariant-loop-m : goal.invariant-loop-m
invariant-loop-m l =
    Going l.n l.meshes l.transforms l.positions l.indices l.initial.triangles l.initial.handles l.triangles l.handles l.st (3 * l.m) l.t l.p l.x
