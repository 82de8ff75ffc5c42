-- `planes_importance::first_of` meets its contract: by its test for an empty list.
use mathlib.Core.Path.{sym}
use Rattle.order.proofs.Runs.{head_at}
use Rattle.planes_importance.proofs.Folds.{head_none}
use Rattle.planes_importance.proofs.first_of.Goals as goal

pub returns-then-tris-eq0 : goal.returns-then-tris-eq0
returns-then-tris-eq0 c = sym (head_none _ c.if-tris-eq0.true)

pub returns : goal.returns
returns c = sym (head_at _)
