-- `cost::rays_of` meets its contract: the rays of the first k orders, and then of one more.
use native.Mathlib.Omega.{arith}
use Rattle.cost.proofs.Totals.{rays_none, factor_fits, term_fits, rays_more, rays_all}
use lib.ListN.{get_or}
use mathlib.Core.Path.{refl}
use Rattle.cost.proofs.rays_of.Goals as goal

pub loop-k-init : goal.loop-k-init
loop-k-init c = rays_none c.args.limit _

pub overflow_mul-rays-in-loop-k : goal.overflow_mul-rays-in-loop-k
overflow_mul-rays-in-loop-k c =
    let f = factor_fits c.args.limit c.loop-k.k (omega arith) (omega arith) in
    omega arith

pub overflow_mul-rays-in-loop-k-2 : goal.overflow_mul-rays-in-loop-k-2
overflow_mul-rays-in-loop-k-2 c =
    let f = term_fits c.args.limit c.loop-k.k (get_or c.args.counts c.loop-k.k 0) (omega arith) (omega arith) (omega arith) in
    omega arith

pub overflow_add-rays-in-loop-k-2 : goal.overflow_add-rays-in-loop-k-2
overflow_add-rays-in-loop-k-2 c =
    let f = term_fits c.args.limit c.loop-k.k (get_or c.args.counts c.loop-k.k 0) (omega arith) (omega arith) (omega arith) in
    let l = c.loop-k.invariant.low in omega arith

pub loop-k-preserved : goal.loop-k-preserved
loop-k-preserved c =
    rays_more c.args.limit _ c.loop-k.rays c.loop-k.k (get_or c.args.counts c.loop-k.k 0)
    c.well_formed.1.0.1.0.1 (omega arith) (omega arith) refl (omega arith) c.loop-k.invariant

pub returns : goal.returns
returns c = rays_all c.args.limit _ c.loop-k.rays c.loop-k.k c.well_formed.1.0.1.0.1 (omega arith) c.loop-k.invariant
