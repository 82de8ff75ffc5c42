-- `cost::allowed` meets its contract: the product does not wrap.
use mathlib.Core.Path.{ap}
use Prim.Native.Nat.{ℕ, ◌*◌}
use native.Mathlib.Omega.{arith}
use Rattle.cost.proofs.Sizes.{all_fit}
use Rattle.cost.proofs.allowed.Goals as goal

pub series-requires : goal.series-requires
series-requires c = (omega arith, omega arith)

pub overflow_mul-result : goal.overflow_mul-result
overflow_mul-result c = let f = all_fit c.args.m c.args.first c.args.order c.series.result c.series.ensures (omega arith) (omega arith) (omega arith) in omega arith

pub returns : goal.returns
returns c = ap (λ (n : ℕ). c.args.first * n) c.series.ensures
