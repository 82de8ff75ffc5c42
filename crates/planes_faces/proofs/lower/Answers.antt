-- `planes_faces::lower` meets its contract, by its test.
use borrow.Author.Tests.{le-leb, lt-leb}
use mathlib.Core.Path.{sym}
use Rattle.planes_faces.proofs.lower.Goals as goal

pub returns-then-a-b : goal.returns-then-a-b
returns-then-a-b c = sym (rw (le-leb _ _ c.if-a-b.true))

pub returns-else-a-b : goal.returns-else-a-b
returns-else-a-b c = sym (rw (lt-leb _ _ c.if-a-b.false))
