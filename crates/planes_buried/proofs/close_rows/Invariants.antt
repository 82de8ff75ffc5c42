-- `planes_buried::close_rows` meets its contract: the loop holds it for the patches before p (`Closing`).
use Prim.Native.Nat.{◌≤◌}
use Rattle.planes_buried.proofs.Closing.{Closing}
use Rattle.planes_buried.proofs.close_rows.Given as goal

abbrev pub invariant-loop-p : goal.invariant-loop-p
invariant-loop-p l = (l.p ≤ l.np) × Closing l.flags l.initial.rows l.initial.numbers l.rows l.numbers l.w l.p
