-- `cost::counts_of` meets its contract: a turn a level, by the laws of `Turns`.
use mathlib.Core.Path.{refl}
use native.Mathlib.Omega.{arith}
use Rattle.cost.proofs.Turns.{turned_none, fits_turn, turned_more, turned_all}
use Rattle.cost.proofs.counts_of.Goals as goal

pub loop-k-init : goal.loop-k-init
loop-k-init c = turned_none c.args.m c.args.order c.args.images (omega arith)

pub series-block-requires : goal.series-block-requires
series-block-requires c = (omega arith, omega arith)

pub overflow_mul-full : goal.overflow_mul-full
overflow_mul-full c =
    let a = c.args in
    let f = fits_turn a.m a.order a.images c.loop-k.counts c.loop-k.k c.loop-k.full c.loop-k.under c.series-block.result c.loop-k.invariant (omega arith) c.series-block.ensures in
    let h = f.product in omega arith

pub nonzero_div-full : goal.nonzero_div-full
nonzero_div-full c =
    let a = c.args in
    let f = fits_turn a.m a.order a.images c.loop-k.counts c.loop-k.k c.loop-k.full c.loop-k.under c.series-block.result c.loop-k.invariant (omega arith) c.series-block.ensures in
    let h = f.some in omega arith

pub overflow_add-full : goal.overflow_add-full
overflow_add-full c =
    let a = c.args in
    let f = fits_turn a.m a.order a.images c.loop-k.counts c.loop-k.k c.loop-k.full c.loop-k.under c.series-block.result c.loop-k.invariant (omega arith) c.series-block.ensures in
    let h = f.whole in omega arith

pub nonzero_rem-rest : goal.nonzero_rem-rest
nonzero_rem-rest c =
    let a = c.args in
    let f = fits_turn a.m a.order a.images c.loop-k.counts c.loop-k.k c.loop-k.full c.loop-k.under c.series-block.result c.loop-k.invariant (omega arith) c.series-block.ensures in
    let h = f.some in omega arith

pub overflow_add-counts : goal.overflow_add-counts
overflow_add-counts c =
    let a = c.args in
    let f = fits_turn a.m a.order a.images c.loop-k.counts c.loop-k.k c.loop-k.full c.loop-k.under c.series-block.result c.loop-k.invariant (omega arith) c.series-block.ensures in
    let h = f.whole in let e = c.begun-part.ensures in omega arith

pub overflow_cast-counts : goal.overflow_cast-counts
overflow_cast-counts c =
    let a = c.args in
    let f = fits_turn a.m a.order a.images c.loop-k.counts c.loop-k.k c.loop-k.full c.loop-k.under c.series-block.result c.loop-k.invariant (omega arith) c.series-block.ensures in
    let h = f.whole in let e = c.begun-part.ensures in omega arith

pub bounds-counts-k : goal.bounds-counts-k
bounds-counts-k c = let e = c.loop-k.invariant.long in omega arith

pub overflow_sub-under : goal.overflow_sub-under
overflow_sub-under c = let e = c.begun-part.ensures in omega arith

pub loop-k-preserved : goal.loop-k-preserved
loop-k-preserved c =
    let a = c.args in
    turned_more a.m a.order a.images c.loop-k.counts c.loop-k.k c.loop-k.full c.loop-k.under c.series-block.result _ c.begun-part.result
    c.loop-k.invariant (omega arith) (omega arith) c.series-block.ensures refl c.begun-part.ensures

pub returns : goal.returns
returns c =
    let a = c.args in
    turned_all a.m a.order a.images c.loop-k.counts c.loop-k.k c.loop-k.full c.loop-k.under c.loop-k.invariant (omega arith)

pub begun-part-requires : goal.begun-part-requires
begun-part-requires c = tt
