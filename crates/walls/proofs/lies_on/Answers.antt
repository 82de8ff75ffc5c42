-- `walls::lies_on` meets its contract: 1 where the source lies on the plane, else 0.
use mathlib.Core.Path.{sym, ap}
use mathlib.Core.Bool.{Bool, cond}
use Rattle.walls.proofs.Marking.{byte_of}
use Rattle.walls.proofs.lies_on.Goals as goal

pub returns-then-lies_on : goal.returns-then-lies_on
returns-then-lies_on c = let a = c.args in λ members edges count h. byte_of a.floats.now a.words.now members edges count a.source a.p c.lies_on.result 1 h (c.lies_on.ensures members edges count h) (sym (ap (λ (b : Bool). cond b 1 0) c.if-lies_on.true))

pub returns : goal.returns
returns c = let a = c.args in λ members edges count h. byte_of a.floats.now a.words.now members edges count a.source a.p c.lies_on.result 0 h (c.lies_on.ensures members edges count h) (sym (ap (λ (b : Bool). cond b 1 0) c.if-lies_on.false))
