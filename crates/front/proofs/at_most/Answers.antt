-- `front::at_most` meets its contract: by its test, the lesser of the two.
use native.Mathlib.Omega.{arith}
use Rattle.front.proofs.at_most.Goals as goal

pub returns-then-wide-most : goal.returns-then-wide-most
returns-then-wide-most c = let f = c.if-wide-most.true in omega arith

pub returns : goal.returns
returns c = let f = c.if-wide-most.false in omega arith
