-- `cost::series` meets its contract: the sum for k terms, and then for one more.
use mathlib.Core.Path.{◌≡◌, refl, ap, ◌∙◌}
use native.Mathlib.Omega.{arith}
use Rattle.sequences.specs.Count.{series}
use Rattle.cost.proofs.Sizes.{series_next, series_fits}
use Rattle.cost.proofs.series.Goals as goal

pub loop-k-init : goal.loop-k-init
unfolding series
loop-k-init c = (omega arith, refl)

pub overflow_mul-s : goal.overflow_mul-s
overflow_mul-s c =
    let f = series_fits c.args.m c.loop-k.s c.loop-k.k c.args.d c.loop-k.invariant.1 (omega arith) (omega arith) (omega arith) in
    omega arith

pub overflow_add-s : goal.overflow_add-s
overflow_add-s c =
    let f = series_fits c.args.m c.loop-k.s c.loop-k.k c.args.d c.loop-k.invariant.1 (omega arith) (omega arith) (omega arith) in
    omega arith

pub loop-k-preserved : goal.loop-k-preserved
loop-k-preserved c = (omega arith, series_next c.args.m c.loop-k.s c.loop-k.k c.loop-k.invariant.1)

pub returns : goal.returns
returns c = c.loop-k.invariant.1 ∙ ap (series c.args.m) (let e : c.loop-k.k ≡ c.args.d = omega arith in e)
