-- `planes_fit::flag` meets its contract, by its test.
use mathlib.Core.Path.{ap, sym}
use mathlib.Core.Bool.{Bool, cond}
use Rattle.planes_fit.proofs.flag.Goals as goal

pub returns-then-b : goal.returns-then-b
returns-then-b c = sym (ap (λ (b : Bool). cond b 1 0) c.if-b.true)

pub returns : goal.returns
returns c = sym (ap (λ (b : Bool). cond b 1 0) c.if-b.false)
