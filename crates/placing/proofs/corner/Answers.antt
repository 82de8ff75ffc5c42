-- `placing::corner` meets its contract: its three reads lie in the positions, then the contract of `transform_point4x4`; the count is one more.
use Rattle.placing.specs.Corners.{corner_of}
use native.Mathlib.Omega.{arith}
use borrow.Author.Rules.{rules}
use Rattle.placing.proofs.corner.Goals as goal

pub returns : goal.returns
unfolding corner_of
returns c = rw (← c.transform_point4x4.ensures)
