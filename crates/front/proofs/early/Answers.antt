-- `front::early` meets its contract: by its test; where it fails, k is 0.
use borrow.Author.Tests.{lt-ltb}
use native.Mathlib.Omega.{arith}
use mathlib.Core.Path.{◌≡◌}
use Rattle.front.proofs.early.Goals as goal

pub returns-then-k-gt0 : goal.returns-then-k-gt0
returns-then-k-gt0 c = rw (lt-ltb 0 c.args.k c.if-k-gt0.true)

pub returns : goal.returns
returns c = let f = c.if-k-gt0.false in let z : c.args.k ≡ 0 = omega arith in rw z
