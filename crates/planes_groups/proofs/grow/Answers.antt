-- `planes_groups::grow` meets its contract: the loop keeps `Breadth`.
use mathlib.Core.Path.{refl, ◌∙◌}
use Prim.Native.Nat.{◌+◌}
use native.Mathlib.Omega.{arith}
use lib.ListN.{get_or}
use Rattle.planes_groups.specs.Rows.{takes_in}
use Rattle.planes_groups.proofs.Seeding.{table_part}
use Rattle.planes_groups.proofs.Breadth.{breadth_none, head_below, breadth_more, breadth_done}
use Rattle.planes_groups.proofs.grow.Goals as goal

pub loop-head-init : goal.loop-head-init
loop-head-init c = (
  refl,
  refl,
  breadth_none c.args.np (takes_in c.args.triangles.now c.args.handles.now c.args.n c.args.rows.now c.args.tsorted.now c.args.tstarts.now c.args.least c.args.most c.args.seed) c.args.asorted.now c.args.astarts.now c.args.assigned.now c.args.queue.now c.args.from c.args.to
      c.requires.from_le_to c.requires.queue,
)

pub offset_bounds-queue-head : goal.offset_bounds-queue-head
offset_bounds-queue-head c = let q = c.loop-head.invariant.2.queue_is in let r = q.room in let t = q.total in omega (arith, r, t)

pub bounds-queue-head : goal.bounds-queue-head
bounds-queue-head c = let q = c.loop-head.invariant.2.queue_is in let r = q.room in let t = q.total in omega (arith, r, t)

pub overflow_cast-p : goal.overflow_cast-p
overflow_cast-p c =
    let hb = head_below c.args.np (takes_in c.args.triangles.now c.args.handles.now c.args.n c.args.rows.now c.args.tsorted.now c.args.tstarts.now c.args.least c.args.most c.args.seed) c.args.asorted.now c.args.astarts.now c.args.assigned.now c.args.queue.now c.args.from c.args.to
    c.loop-head.assigned c.loop-head.queue c.loop-head.head c.loop-head.tail c.loop-head.invariant.2 c.loop-head-test.true in omega (arith, hb)

pub overflow_add-head : goal.overflow_add-head
overflow_add-head c = let q = c.loop-head.invariant.2.queue_is in let r = q.room in let t = q.total in omega (arith, r, t)

pub offset_bounds-astarts-p : goal.offset_bounds-astarts-p
offset_bounds-astarts-p c =
    let hb = head_below c.args.np (takes_in c.args.triangles.now c.args.handles.now c.args.n c.args.rows.now c.args.tsorted.now c.args.tstarts.now c.args.least c.args.most c.args.seed) c.args.asorted.now c.args.astarts.now c.args.assigned.now c.args.queue.now c.args.from c.args.to
    c.loop-head.assigned c.loop-head.queue c.loop-head.head c.loop-head.tail c.loop-head.invariant.2 c.loop-head-test.true in let t = c.requires.table_2 in let l = t.long in omega (arith, hb, l)

pub bounds-astarts-p : goal.bounds-astarts-p
bounds-astarts-p c =
    let hb = head_below c.args.np (takes_in c.args.triangles.now c.args.handles.now c.args.n c.args.rows.now c.args.tsorted.now c.args.tstarts.now c.args.least c.args.most c.args.seed) c.args.asorted.now c.args.astarts.now c.args.assigned.now c.args.queue.now c.args.from c.args.to
    c.loop-head.assigned c.loop-head.queue c.loop-head.head c.loop-head.tail c.loop-head.invariant.2 c.loop-head-test.true in let t = c.requires.table_2 in let l = t.long in omega (arith, hb, l)

pub overflow_cast-a : goal.overflow_cast-a
overflow_cast-a c =
    omega (arith, (c.shared_slice_known-in-loop-head-1.given (get_or c.loop-head.queue c.loop-head.head 0)).fits)

pub overflow_add-b : goal.overflow_add-b
overflow_add-b c =
    let hb = head_below c.args.np (takes_in c.args.triangles.now c.args.handles.now c.args.n c.args.rows.now c.args.tsorted.now c.args.tstarts.now c.args.least c.args.most c.args.seed) c.args.asorted.now c.args.astarts.now c.args.assigned.now c.args.queue.now c.args.from c.args.to
    c.loop-head.assigned c.loop-head.queue c.loop-head.head c.loop-head.tail c.loop-head.invariant.2 c.loop-head-test.true in let t = c.requires.table_2 in let l = t.long in omega (arith, hb, l)

pub offset_bounds-astarts-p-in-loop-head : goal.offset_bounds-astarts-p-in-loop-head
offset_bounds-astarts-p-in-loop-head c =
    let hb = head_below c.args.np (takes_in c.args.triangles.now c.args.handles.now c.args.n c.args.rows.now c.args.tsorted.now c.args.tstarts.now c.args.least c.args.most c.args.seed) c.args.asorted.now c.args.astarts.now c.args.assigned.now c.args.queue.now c.args.from c.args.to
    c.loop-head.assigned c.loop-head.queue c.loop-head.head c.loop-head.tail c.loop-head.invariant.2 c.loop-head-test.true in let t = c.requires.table_2 in let l = t.long in omega (arith, hb, l)

pub bounds-astarts-p-in-loop-head : goal.bounds-astarts-p-in-loop-head
bounds-astarts-p-in-loop-head c =
    let hb = head_below c.args.np (takes_in c.args.triangles.now c.args.handles.now c.args.n c.args.rows.now c.args.tsorted.now c.args.tstarts.now c.args.least c.args.most c.args.seed) c.args.asorted.now c.args.astarts.now c.args.assigned.now c.args.queue.now c.args.from c.args.to
    c.loop-head.assigned c.loop-head.queue c.loop-head.head c.loop-head.tail c.loop-head.invariant.2 c.loop-head-test.true in let t = c.requires.table_2 in let l = t.long in omega (arith, hb, l)

pub overflow_cast-b : goal.overflow_cast-b
overflow_cast-b c =
    omega (arith, (c.shared_slice_known-in-loop-head-2-1.given (get_or c.loop-head.queue c.loop-head.head 0 + 1)).fits)

pub offset_bounds-asorted-a : goal.offset_bounds-asorted-a
offset_bounds-asorted-a c =
    let hb = head_below c.args.np (takes_in c.args.triangles.now c.args.handles.now c.args.n c.args.rows.now c.args.tsorted.now c.args.tstarts.now c.args.least c.args.most c.args.seed) c.args.asorted.now c.args.astarts.now c.args.assigned.now c.args.queue.now c.args.from c.args.to
    c.loop-head.assigned c.loop-head.queue c.loop-head.head c.loop-head.tail c.loop-head.invariant.2 c.loop-head-test.true in let t = c.requires.table_2 in let r = t.bounds.rise (get_or c.loop-head.queue c.loop-head.head 0) hb in let e = t.bounds.ends (get_or c.loop-head.queue c.loop-head.head 0 + 1) (omega (arith, hb)) in omega (arith, r, e)

pub slice_bounds-let_in-count : goal.slice_bounds-let_in-count
slice_bounds-let_in-count c =
    let hb = head_below c.args.np (takes_in c.args.triangles.now c.args.handles.now c.args.n c.args.rows.now c.args.tsorted.now c.args.tstarts.now c.args.least c.args.most c.args.seed) c.args.asorted.now c.args.astarts.now c.args.assigned.now c.args.queue.now c.args.from c.args.to
    c.loop-head.assigned c.loop-head.queue c.loop-head.head c.loop-head.tail c.loop-head.invariant.2 c.loop-head-test.true in let t = c.requires.table_2 in let r = t.bounds.rise (get_or c.loop-head.queue c.loop-head.head 0) hb in let e = t.bounds.ends (get_or c.loop-head.queue c.loop-head.head 0 + 1) (omega (arith, hb)) in omega (arith, r, e)

pub slice_bounds-let_in-start : goal.slice_bounds-let_in-start
slice_bounds-let_in-start c =
    let hb = head_below c.args.np (takes_in c.args.triangles.now c.args.handles.now c.args.n c.args.rows.now c.args.tsorted.now c.args.tstarts.now c.args.least c.args.most c.args.seed) c.args.asorted.now c.args.astarts.now c.args.assigned.now c.args.queue.now c.args.from c.args.to
    c.loop-head.assigned c.loop-head.queue c.loop-head.head c.loop-head.tail c.loop-head.invariant.2 c.loop-head-test.true in let t = c.requires.table_2 in let r = t.bounds.rise (get_or c.loop-head.queue c.loop-head.head 0) hb in let e = t.bounds.ends (get_or c.loop-head.queue c.loop-head.head 0 + 1) (omega (arith, hb)) in omega (arith, r, e)

pub slice_bounds-let_in-end : goal.slice_bounds-let_in-end
slice_bounds-let_in-end c =
    let hb = head_below c.args.np (takes_in c.args.triangles.now c.args.handles.now c.args.n c.args.rows.now c.args.tsorted.now c.args.tstarts.now c.args.least c.args.most c.args.seed) c.args.asorted.now c.args.astarts.now c.args.assigned.now c.args.queue.now c.args.from c.args.to
    c.loop-head.assigned c.loop-head.queue c.loop-head.head c.loop-head.tail c.loop-head.invariant.2 c.loop-head-test.true in let t = c.requires.table_2 in let r = t.bounds.rise (get_or c.loop-head.queue c.loop-head.head 0) hb in let e = t.bounds.ends (get_or c.loop-head.queue c.loop-head.head 0 + 1) (omega (arith, hb)) in omega (arith, r, e)

pub let_in-tail-requires : goal.let_in-tail-requires
let_in-tail-requires c =
    let hb = head_below c.args.np (takes_in c.args.triangles.now c.args.handles.now c.args.n c.args.rows.now c.args.tsorted.now c.args.tstarts.now c.args.least c.args.most c.args.seed) c.args.asorted.now c.args.astarts.now c.args.assigned.now c.args.queue.now c.args.from c.args.to
    c.loop-head.assigned c.loop-head.queue c.loop-head.head c.loop-head.tail c.loop-head.invariant.2 c.loop-head-test.true in record {
      n_in_bounds = c.requires.n_in_bounds;
      np_in_bounds = c.requires.np_in_bounds;
      table = c.requires.table;
      seed_lt_np = (omega (arith, hb, c.requires.seed_lt_np.0), c.requires.seed_lt_np.1);
      below = table_part c.args.np c.args.np c.args.asorted.now c.args.astarts.now (get_or c.loop-head.queue c.loop-head.head 0) c.requires.table_2 hb;
      queue = c.loop-head.invariant.2.queue_is;
    }

pub loop-head-smaller : goal.loop-head-smaller
loop-head-smaller c = let q = c.loop-head.invariant.2.queue_is in let t = q.total in omega (arith, t, c.loop-head-test.true)

pub loop-head-preserved : goal.loop-head-preserved
loop-head-preserved c = (
  c.let_in-tail.auto.assigned ∙ c.loop-head.invariant.0,
  c.let_in-tail.auto.queue ∙ c.loop-head.invariant.1,
  breadth_more c.args.np (takes_in c.args.triangles.now c.args.handles.now c.args.n c.args.rows.now c.args.tsorted.now c.args.tstarts.now c.args.least c.args.most c.args.seed) c.args.asorted.now c.args.astarts.now c.args.assigned.now c.args.queue.now c.args.from c.args.to
      c.loop-head.assigned c.loop-head.queue c.loop-head.head c.loop-head.tail c.loop-head.invariant.2 c.loop-head-test.true c.let_in-tail.new.assigned c.let_in-tail.new.queue c.let_in-tail.result c.let_in-tail.ensures.lower_bound c.let_in-tail.ensures.queue_2 c.let_in-tail.ensures.by_index,
)

pub shape_of-assigned : goal.shape_of-assigned
shape_of-assigned c = c.loop-head.invariant.0

pub shape_of-queue : goal.shape_of-queue
shape_of-queue c = c.loop-head.invariant.1

pub returns : goal.returns
returns c = record {
  lower_bound = c.loop-head.invariant.2.rise;
  queue_2 = c.loop-head.invariant.2.queue_is;
  by_index = breadth_done c.args.np (takes_in c.args.triangles.now c.args.handles.now c.args.n c.args.rows.now c.args.tsorted.now c.args.tstarts.now c.args.least c.args.most c.args.seed) c.args.asorted.now c.args.astarts.now c.args.assigned.now c.args.queue.now
      c.args.from c.args.to c.loop-head.assigned c.loop-head.queue c.loop-head.head c.loop-head.tail c.loop-head.invariant.2 c.loop-head-test.false;
}
