-- `planes_groups::let_in` meets its contract: the loop keeps `Letting`.
use mathlib.Core.Path.{refl, sym, ◌∙◌}
use Prim.Native.Nat.{◌%◌}
use native.Mathlib.Omega.{arith}
use lib.ListN.{get_or, length-set}
use Rattle.planes_links.specs.Words.{lows}
use Rattle.planes_groups.specs.Rows.{takes_in}
use Rattle.planes_groups.proofs.Taking.{low_below}
use Rattle.planes_groups.proofs.Letting.{let_none, let_taken, let_unfit, let_room, let_more, let_done}
use Rattle.planes_groups.proofs.let_in.Goals as goal

pub loop-patch-init : goal.loop-patch-init
loop-patch-init c =
    (omega arith, refl, refl, let_none c.args.np (takes_in c.args.triangles.now c.args.handles.now c.args.n c.args.rows.now c.args.tsorted.now c.args.tstarts.now c.args.least c.args.most c.args.seed) c.args.mark (lows c.args.row.now) c.args.assigned.now c.args.queue.now c.args.from c.requires.queue)

pub offset_bounds-assigned-at : goal.offset_bounds-assigned-at
offset_bounds-assigned-at c =
    let b = low_below c.args.np c.args.row.now c.loop-patch.patch-index c.requires.below c.loop-patch-test.true in let w = c.loop-patch.invariant.3.queue_is.column in omega (arith, b, w)

pub bounds-assigned-at : goal.bounds-assigned-at
bounds-assigned-at c =
    let b = low_below c.args.np c.args.row.now c.loop-patch.patch-index c.requires.below c.loop-patch-test.true in let w = c.loop-patch.invariant.3.queue_is.column in omega (arith, b, w)

pub loop-patch-preserved-then-assigned-at-ne0 : goal.loop-patch-preserved-then-assigned-at-ne0
loop-patch-preserved-then-assigned-at-ne0 c = (
  omega arith,
  c.loop-patch.invariant.1,
  c.loop-patch.invariant.2,
  let_taken c.args.np (takes_in c.args.triangles.now c.args.handles.now c.args.n c.args.rows.now c.args.tsorted.now c.args.tstarts.now c.args.least c.args.most c.args.seed) c.args.mark c.requires.seed_lt_np.1 c.args.row.now c.args.assigned.now c.args.queue.now
      c.args.from c.loop-patch.assigned c.loop-patch.queue c.loop-patch.tail c.loop-patch.patch-index c.loop-patch.invariant.3 c.loop-patch-test.true c.if-assigned-at-ne0.true,
)

pub takes-requires : goal.takes-requires
takes-requires c = record {
  n_in_bounds = c.requires.n_in_bounds;
  np_in_bounds = c.requires.np_in_bounds;
  table = c.requires.table;
  a_lt_np = (c.requires.seed_lt_np.0, low_below c.args.np c.args.row.now c.loop-patch.patch-index c.requires.below c.loop-patch-test.true);
}

pub offset_bounds-assigned-at-in-loop-patch : goal.offset_bounds-assigned-at-in-loop-patch
offset_bounds-assigned-at-in-loop-patch c =
    let b = low_below c.args.np c.args.row.now c.loop-patch.patch-index c.requires.below c.loop-patch-test.true in let w = c.loop-patch.invariant.3.queue_is.column in omega (arith, b, w)

pub bounds-assigned-at-in-loop-patch : goal.bounds-assigned-at-in-loop-patch
bounds-assigned-at-in-loop-patch c =
    let b = low_below c.args.np c.args.row.now c.loop-patch.patch-index c.requires.below c.loop-patch-test.true in let w = c.loop-patch.invariant.3.queue_is.column in omega (arith, b, w)

pub offset_bounds-queue-tail : goal.offset_bounds-queue-tail
offset_bounds-queue-tail c =
    let b = low_below c.args.np c.args.row.now c.loop-patch.patch-index c.requires.below c.loop-patch-test.true in let r = let_room c.args.np (takes_in c.args.triangles.now c.args.handles.now c.args.n c.args.rows.now c.args.tsorted.now c.args.tstarts.now c.args.least c.args.most
    c.args.seed) c.args.mark c.requires.seed_lt_np.1 c.args.row.now c.args.assigned.now c.args.queue.now c.args.from c.loop-patch.assigned c.loop-patch.queue c.loop-patch.tail c.loop-patch.patch-index c.loop-patch.invariant.3 c.loop-patch-test.true b c.if-assigned-at-ne0.false in let w = c.loop-patch.invariant.3.queue_is.room in omega (arith, r, w, c.loop-patch.invariant.2)

pub bounds-queue-tail : goal.bounds-queue-tail
bounds-queue-tail c =
    let b = low_below c.args.np c.args.row.now c.loop-patch.patch-index c.requires.below c.loop-patch-test.true in let r = let_room c.args.np (takes_in c.args.triangles.now c.args.handles.now c.args.n c.args.rows.now c.args.tsorted.now c.args.tstarts.now c.args.least c.args.most
    c.args.seed) c.args.mark c.requires.seed_lt_np.1 c.args.row.now c.args.assigned.now c.args.queue.now c.args.from c.loop-patch.assigned c.loop-patch.queue c.loop-patch.tail c.loop-patch.patch-index c.loop-patch.invariant.3 c.loop-patch-test.true b c.if-assigned-at-ne0.false in let w = c.loop-patch.invariant.3.queue_is.room in omega (arith, r, w)

pub overflow_add-tail : goal.overflow_add-tail
overflow_add-tail c =
    let b = low_below c.args.np c.args.row.now c.loop-patch.patch-index c.requires.below c.loop-patch-test.true in let r = let_room c.args.np (takes_in c.args.triangles.now c.args.handles.now c.args.n c.args.rows.now c.args.tsorted.now c.args.tstarts.now c.args.least c.args.most
    c.args.seed) c.args.mark c.requires.seed_lt_np.1 c.args.row.now c.args.assigned.now c.args.queue.now c.args.from c.loop-patch.assigned c.loop-patch.queue c.loop-patch.tail c.loop-patch.patch-index c.loop-patch.invariant.3 c.loop-patch-test.true b c.if-assigned-at-ne0.false in omega (arith, r)

pub loop-patch-preserved : goal.loop-patch-preserved
loop-patch-preserved c =
    let b = low_below c.args.np c.args.row.now c.loop-patch.patch-index c.requires.below c.loop-patch-test.true in (
      omega arith,
      length-set c.loop-patch.assigned (get_or c.args.row.now c.loop-patch.patch-index 0 % 4096) c.args.mark ∙ c.loop-patch.invariant.1,
      length-set c.loop-patch.queue c.loop-patch.tail (get_or c.args.row.now c.loop-patch.patch-index 0 % 4096) ∙ c.loop-patch.invariant.2,
      let_more c.args.np (takes_in c.args.triangles.now c.args.handles.now c.args.n c.args.rows.now c.args.tsorted.now
          c.args.tstarts.now c.args.least c.args.most c.args.seed) c.args.mark c.requires.seed_lt_np.1 c.args.row.now c.args.assigned.now c.args.queue.now c.args.from c.loop-patch.assigned c.loop-patch.queue c.loop-patch.tail c.loop-patch.patch-index c.loop-patch.invariant.3 c.loop-patch-test.true b c.if-assigned-at-ne0.false (sym
          c.takes.ensures ∙ c.if-not-takes.false),
    )

pub loop-patch-preserved-then-not-takes : goal.loop-patch-preserved-then-not-takes
loop-patch-preserved-then-not-takes c = (
  omega arith,
  c.loop-patch.invariant.1,
  c.loop-patch.invariant.2,
  let_unfit c.args.np (takes_in c.args.triangles.now c.args.handles.now c.args.n c.args.rows.now c.args.tsorted.now c.args.tstarts.now c.args.least c.args.most c.args.seed) c.args.mark c.requires.seed_lt_np.1 c.args.row.now c.args.assigned.now c.args.queue.now
      c.args.from c.loop-patch.assigned c.loop-patch.queue c.loop-patch.tail c.loop-patch.patch-index c.loop-patch.invariant.3 c.loop-patch-test.true (sym c.takes.ensures ∙ c.if-not-takes.true),
)

pub shape_of-assigned : goal.shape_of-assigned
shape_of-assigned c = c.loop-patch.invariant.1

pub shape_of-queue : goal.shape_of-queue
shape_of-queue c = c.loop-patch.invariant.2

pub returns : goal.returns
returns c =
    let m = c.loop-patch.invariant.3 in record {
      lower_bound = m.rise;
      queue_2 = m.queue_is;
      by_index = let_done c.args.np (takes_in c.args.triangles.now c.args.handles.now c.args.n c.args.rows.now c.args.tsorted.now c.args.tstarts.now c.args.least c.args.most c.args.seed) c.args.mark c.requires.seed_lt_np.1 c.args.row.now c.args.assigned.now c.args.queue.now
          c.args.from c.loop-patch.assigned c.loop-patch.queue c.loop-patch.tail c.loop-patch.patch-index m c.loop-patch-test.false c.requires.queue.column;
    }
