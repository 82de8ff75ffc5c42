-- `planes_links::row_starts` meets its contract: the loop keeps `Starting`, and either passes a word or ends a row.
use mathlib.Core.Path.{refl, ◌∙◌}
use native.Mathlib.Omega.{arith}
use lib.ListN.{length-set}
use Rattle.planes_links.proofs.Cutting.{start_none, start_pass, start_row}
use Rattle.planes_links.proofs.row_starts.Goals as goal

pub loop-r-init : goal.loop-r-init
loop-r-init c =
    (omega arith, omega arith, refl, start_none c.args.sorted.now c.args.offsets.now)

pub overflow_add-i : goal.overflow_add-i
overflow_add-i c = let b = c.is_before.ensures.i_in_bounds c.if-is_before.true in omega (arith, b.0)

pub loop-r-smaller-then-is_before : goal.loop-r-smaller-then-is_before
loop-r-smaller-then-is_before c = let b = c.is_before.ensures.i_in_bounds c.if-is_before.true in omega (arith, b.0)

pub loop-r-preserved-then-is_before : goal.loop-r-preserved-then-is_before
loop-r-preserved-then-is_before c =
    let b = c.is_before.ensures.i_in_bounds c.if-is_before.true in
    (omega arith, omega (arith, b.0), c.loop-r.invariant.2, start_pass c.args.sorted.now c.loop-r.offsets c.loop-r.r c.loop-r.i c.loop-r.invariant.3 b.0 b.1)

pub offset_bounds-offsets-r : goal.offset_bounds-offsets-r
offset_bounds-offsets-r c = omega (arith, c.loop-r.invariant.2, c.requires.rows_in_bounds)

pub bounds-offsets-r : goal.bounds-offsets-r
bounds-offsets-r c = omega (arith, c.loop-r.invariant.2, c.requires.rows_in_bounds)

pub loop-r-preserved : goal.loop-r-preserved
loop-r-preserved c = (
  omega arith,
  omega arith,
  length-set c.loop-r.offsets c.loop-r.r c.loop-r.i ∙ c.loop-r.invariant.2,
  start_row c.args.sorted.now c.loop-r.offsets c.loop-r.r c.loop-r.i c.loop-r.invariant.3 c.requires.sorted (omega (arith, c.loop-r.invariant.2, c.requires.rows_in_bounds)) (c.is_before.ensures.at_or_past c.if-is_before.false),
)

pub shape_of-offsets : goal.shape_of-offsets
shape_of-offsets c = c.loop-r.invariant.2

pub returns : goal.returns
returns c = λ r h. c.loop-r.invariant.3.done r (omega (arith, h, c.loop-r-test.false))

pub is_before-requires : goal.is_before-requires
is_before-requires c = tt
