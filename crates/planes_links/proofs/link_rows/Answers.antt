-- `planes_links::link_rows` meets its contract: the loop keeps `Told` of the rows so far.
use mathlib.Core.Path.{◌≡◌, refl, ◌∙◌}
use Prim.Native.Nat.{◌+◌}
use native.Mathlib.Omega.{arith}
use lib.ListN.{get_or}
use Rattle.planes_links.specs.Words.{row_in}
use Rattle.planes_links.specs.Links.{is_linked}
use Rattle.planes_links.proofs.Pushing.{told_none, told_more}
use Rattle.planes_links.proofs.Linking.{length_part, rows_link}
use Rattle.planes_links.proofs.link_rows.Goals as goal

pub loop-v-init : goal.loop-v-init
loop-v-init c =
    (omega arith, omega arith, refl, told_none (λ a b r. is_linked (row_in c.args.sorted.now c.args.offsets.now r) a b) c.args.words.now)

pub overflow_cast-a : goal.overflow_cast-a
overflow_cast-a c = omega (arith, (c.shared_slice_known-in-loop-v-1.given c.loop-v.v).fits)

pub overflow_cast-b : goal.overflow_cast-b
overflow_cast-b c = omega (arith, (c.shared_slice_known-in-loop-v-2-1.given (c.loop-v.v + 1)).fits)

pub offset_bounds-sorted-a : goal.offset_bounds-sorted-a
offset_bounds-sorted-a c =
    let f = c.requires.row_bounds in
    let r = f.rise c.loop-v.v c.loop-v-test.true in
    let e = f.ends (c.loop-v.v + 1) (omega (arith, c.loop-v-test.true)) in
    omega (arith, r, e)

pub slice_bounds-link_row-count : goal.slice_bounds-link_row-count
slice_bounds-link_row-count c =
    let f = c.requires.row_bounds in
    let r = f.rise c.loop-v.v c.loop-v-test.true in
    let e = f.ends (c.loop-v.v + 1) (omega (arith, c.loop-v-test.true)) in
    omega (arith, r, e)

pub slice_bounds-link_row-start : goal.slice_bounds-link_row-start
slice_bounds-link_row-start c =
    let f = c.requires.row_bounds in
    let r = f.rise c.loop-v.v c.loop-v-test.true in
    let e = f.ends (c.loop-v.v + 1) (omega (arith, c.loop-v-test.true)) in
    omega (arith, r, e)

pub slice_bounds-link_row-end : goal.slice_bounds-link_row-end
slice_bounds-link_row-end c =
    let f = c.requires.row_bounds in
    let r = f.rise c.loop-v.v c.loop-v-test.true in
    let e = f.ends (c.loop-v.v + 1) (omega (arith, c.loop-v-test.true)) in
    omega (arith, r, e)

pub link_row-k-requires : goal.link_row-k-requires
link_row-k-requires c =
    let f = c.requires.row_bounds in
    let a = get_or c.args.offsets.now c.loop-v.v 0 in
    let b = get_or c.args.offsets.now (c.loop-v.v + 1) 0 in
    let e = f.ends (c.loop-v.v + 1) (omega (arith, c.loop-v-test.true)) in
    let r = f.rise c.loop-v.v c.loop-v-test.true in
    let l = length_part c.args.sorted.now a b in
    omega (arith, l, e, r, c.loop-v.invariant.1, c.loop-v.invariant.2, c.requires.sorted_in_bounds)

pub loop-v-preserved : goal.loop-v-preserved
loop-v-preserved c =
    let f = c.requires.row_bounds in
    let a = get_or c.args.offsets.now c.loop-v.v 0 in
    let b = get_or c.args.offsets.now (c.loop-v.v + 1) 0 in
    let r = f.rise c.loop-v.v c.loop-v-test.true in
    let l = length_part c.args.sorted.now a b in (
      omega arith,
      omega (arith, l, r, c.loop-v.invariant.1, c.link_row-k.ensures.upper_bound),
      c.link_row-k.auto.words ∙ c.loop-v.invariant.2,
      told_more (λ a b r. is_linked (row_in c.args.sorted.now c.args.offsets.now r) a b) c.loop-v.words c.loop-v.k c.loop-v.v c.loop-v.invariant.3 c.link_row-k.new.words c.link_row-k.result
          (rows_link c.args.sorted.now c.args.offsets.now c.loop-v.v c.loop-v.words c.link_row-k.new.words c.loop-v.k c.link_row-k.result c.link_row-k.ensures.by_index),
    )

pub shape_of-words : goal.shape_of-words
shape_of-words c = c.loop-v.invariant.2

pub returns : goal.returns
returns c =
    let e : c.loop-v.v ≡ c.args.rows = omega arith in
    let f = c.requires.row_bounds.ends c.loop-v.v c.loop-v.invariant.0 in record {
      upper_bound = omega (arith, f, c.loop-v.invariant.1);
      by_index = rw e at c.loop-v.invariant.3;
    }
