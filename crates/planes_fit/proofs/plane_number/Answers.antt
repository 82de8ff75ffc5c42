-- `planes_fit::plane_number` meets its contract, by its two tests.
use mathlib.Core.Path.{ap, sym}
use native.Mathlib.Omega.{arith}
use Rattle.planes_fit.specs.Rows.{before_of}
use Rattle.planes_fit.proofs.Naming.{before_one, get_or_outside}
use Rattle.planes_fit.proofs.plane_number.Goals as goal

pub returns-then-i-group_of : goal.returns-then-i-group_of
unfolding before_of
returns-then-i-group_of c = sym (ap before_of (get_or_outside c.args.group_of.now c.args.p 0 c.if-i-group_of.true))

pub returns-then-g-eq0 : goal.returns-then-g-eq0
unfolding before_of
returns-then-g-eq0 c = sym (ap before_of c.if-g-eq0.true)

pub overflow_sub-result : goal.overflow_sub-result
overflow_sub-result c = omega (arith, c.if-g-eq0.false)

pub returns : goal.returns
returns c = before_one _ c.if-g-eq0.false
