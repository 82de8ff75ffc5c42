-- `cost::visited` meets its contract: the lesser of the limit and of all.
use native.Mathlib.Omega.{arith}
use Rattle.cost.proofs.visited.Goals as goal

pub returns-then-all : goal.returns-then-all
returns-then-all c = (omega arith, omega arith)

pub returns : goal.returns
returns c = (omega arith, omega arith)
