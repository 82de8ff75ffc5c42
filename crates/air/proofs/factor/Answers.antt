-- `air::factor` meets its contract: the entry of the table over a power of ten.
use Rattle.std.proofs.Common.{◌/◌, ◌<◌, ◌≤◌, zero-lt-suc, arith}
use native.Mathlib.Nat.{one-le-pow}
use Rattle.air.specs.Air.{factor_of_steps}
use Rattle.air.proofs.Nothing.{ten_at}
use Rattle.air.proofs.factor.Goals as goal

pub nonzero_div-result-2 : goal.nonzero_div-result-2
nonzero_div-result-2 c =
    let near : c.args.steps / 400 < 9 = let h : c.args.steps ≤ 3200 = c.requires.steps_le_most_steps in omega (arith, h) in
    rw (ten_at (c.args.steps / 400) (near)) (one-le-pow (c.args.steps / 400) 10 (zero-lt-suc 9))

pub returns : goal.returns
unfolding factor_of_steps
returns c =
    let near : c.args.steps / 400 < 9 = let h : c.args.steps ≤ 3200 = c.requires.steps_le_most_steps in omega (arith, h) in
    rw (ten_at (c.args.steps / 400) (near), c.requires.table_value)
