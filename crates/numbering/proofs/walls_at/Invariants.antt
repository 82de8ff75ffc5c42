-- `numbering::walls_at` meets its contract. The loop's invariant: what is left is the same question, `len` planes deeper (`Walk`).
use Prim.Native.Nat.{◌-◌}
use mathlib.Core.Path.{◌≡◌}
use lib.ListN.{length}
use Rattle.numbering.proofs.Walking.{Walk}
use Rattle.numbering.proofs.walls_at.Given as goal

abbrev pub invariant-loop-rest : goal.invariant-loop-rest
invariant-loop-rest l = (l.m ≡ length l.on - 1) × Walk l.on l.order l.place l.planes l.len l.rest l.d

abbrev pub decreases-loop-rest : goal.decreases-loop-rest
decreases-loop-rest l = l.d
