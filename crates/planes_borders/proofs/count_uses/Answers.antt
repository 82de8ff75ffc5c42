-- `planes_borders::count_uses` meets its contract: the loop holds the counts of the edges before e (`Counted`).
use mathlib.Core.Path.{◌∙◌, refl, sym}
use Prim.Native.Nat.{◌+◌}
use native.Mathlib.Omega.{arith}
use lib.ListN.{get_or, length}
use Rattle.planes_borders.proofs.Counting.{below_at, counted_all, counted_low, counted_more, counted_none}
use Rattle.planes_borders.proofs.count_uses.Goals as goal

pub loop-edge-init : goal.loop-edge-init
loop-edge-init c = let a = c.args in counted_none a.first.now c.fill.new.self (length a.uses.now) (c.fill.auto.self ∙ c.requires.uses_len) (c.fill.ensures.after (λ y e. e))

pub overflow_cast-k : goal.overflow_cast-k
overflow_cast-k c =
    let b = below_at (length c.args.first.now) c.args.first.now c.loop-edge.edge-index c.requires.below c.loop-edge-test.true in omega arith

pub offset_bounds-uses-k : goal.offset_bounds-uses-k
offset_bounds-uses-k c =
    let b = below_at (length c.args.first.now) c.args.first.now c.loop-edge.edge-index c.requires.below c.loop-edge-test.true in let s = c.requires.first_len_bound in omega arith

pub bounds-uses-k : goal.bounds-uses-k
bounds-uses-k c =
    let b = below_at (length c.args.first.now) c.args.first.now c.loop-edge.edge-index c.requires.below c.loop-edge-test.true in let s = c.loop-edge.invariant.long in omega arith

pub overflow_add-uses : goal.overflow_add-uses
overflow_add-uses c =
    let b = below_at (length c.args.first.now) c.args.first.now c.loop-edge.edge-index c.requires.below c.loop-edge-test.true in let l = c.loop-edge.invariant.long in let s = c.requires.first_len_bound in let h = c.loop-edge-test.true in
    let low = counted_low c.args.first.now c.loop-edge.uses c.loop-edge.edge-index (get_or c.args.first.now c.loop-edge.edge-index 0) c.loop-edge.invariant b in omega arith

pub offset_bounds-uses-k-in-loop-edge : goal.offset_bounds-uses-k-in-loop-edge
offset_bounds-uses-k-in-loop-edge c =
    let b = below_at (length c.args.first.now) c.args.first.now c.loop-edge.edge-index c.requires.below c.loop-edge-test.true in let s = c.requires.first_len_bound in omega arith

pub bounds-uses-k-in-loop-edge : goal.bounds-uses-k-in-loop-edge
bounds-uses-k-in-loop-edge c =
    let b = below_at (length c.args.first.now) c.args.first.now c.loop-edge.edge-index c.requires.below c.loop-edge-test.true in let s = c.loop-edge.invariant.long in omega arith

pub loop-edge-preserved : goal.loop-edge-preserved
loop-edge-preserved c =
    let first = c.args.first.now in let h = c.loop-edge-test.true in let b = below_at (length c.args.first.now) c.args.first.now c.loop-edge.edge-index c.requires.below c.loop-edge-test.true in
    counted_more first c.loop-edge.uses c.loop-edge.edge-index (get_or first c.loop-edge.edge-index 0) (get_or c.loop-edge.uses (get_or first c.loop-edge.edge-index 0) 0 + 1) c.loop-edge.invariant h refl b refl

pub shape_of-uses : goal.shape_of-uses
shape_of-uses c = c.loop-edge.invariant.long ∙ sym c.requires.uses_len

pub returns : goal.returns
returns c = counted_all c.args.first.now c.loop-edge.uses c.loop-edge.edge-index c.loop-edge.invariant (omega (arith, c.loop-edge-test.false))
