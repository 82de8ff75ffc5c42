-- `planes_groups::grow_groups` meets its contract: the loop keeps `Grouping`.
use mathlib.Core.Path.{refl, sym, ap, ◌∙◌}
use Prim.Native.Nat.{ℕ, ◌+◌, ◌<◌}
use native.Mathlib.Omega.{arith}
use lib.ListN.{length, get_or, take, set, length-set}
use lib.Seq.{get_or-set_same, length-take-le}
use Rattle.planes_groups.specs.Rows.{takes_in}
use Rattle.planes_groups.proofs.Grouping.{group_none, group_skip, group_more, group_free, group_done, group_grouped, seed_below, seed_at}
use Rattle.planes_groups.proofs.grow_groups.Goals as goal

pub bounds-offsets-0 : goal.bounds-offsets-0
bounds-offsets-0 c = omega (arith, c.requires.np_in_bounds_3)

pub loop-i-init : goal.loop-i-init
loop-i-init c =
    let room : 0 < length c.args.offsets.now = omega (arith, c.requires.np_in_bounds_3) in (
      omega arith,
      omega arith,
      refl,
      refl,
      refl,
      group_none c.args.np (takes_in c.args.triangles.now c.args.handles.now c.args.n c.args.rows.now c.args.tsorted.now c.args.tstarts.now c.args.least c.args.most) c.args.asorted.now c.args.astarts.now (take c.args.np c.args.order.now)
          c.args.assigned.now c.args.queue.now (set c.args.offsets.now 0 0) c.requires.queue (get_or-set_same c.args.offsets.now 0 0 0 room),
    )

pub offset_bounds-order-i : goal.offset_bounds-order-i
offset_bounds-order-i c = omega (arith, c.requires.np_in_bounds_2.0)

pub bounds-order-i : goal.bounds-order-i
bounds-order-i c = omega (arith, c.requires.np_in_bounds_2.0)

pub overflow_cast-s : goal.overflow_cast-s
overflow_cast-s c =
    let sb = seed_below c.args.np c.args.order.now c.loop-i.i c.requires.np_in_bounds_2.1 c.requires.np_in_bounds_2.0 c.loop-i-test.true in omega (arith, sb)

pub offset_bounds-assigned-s : goal.offset_bounds-assigned-s
offset_bounds-assigned-s c =
    let sb = seed_below c.args.np c.args.order.now c.loop-i.i c.requires.np_in_bounds_2.1 c.requires.np_in_bounds_2.0 c.loop-i-test.true in let w = c.loop-i.invariant.5.queue_is.column in omega (arith, sb, w, c.loop-i.invariant.2)

pub bounds-assigned-s : goal.bounds-assigned-s
bounds-assigned-s c =
    let sb = seed_below c.args.np c.args.order.now c.loop-i.i c.requires.np_in_bounds_2.1 c.requires.np_in_bounds_2.0 c.loop-i-test.true in let w = c.loop-i.invariant.5.queue_is.column in omega (arith, sb, w)

pub loop-i-preserved-then-assigned-s-ne0 : goal.loop-i-preserved-then-assigned-s-ne0
loop-i-preserved-then-assigned-s-ne0 c =
    let sb = seed_below c.args.np c.args.order.now c.loop-i.i c.requires.np_in_bounds_2.1 c.requires.np_in_bounds_2.0 c.loop-i-test.true in let sa = seed_at
    c.args.np c.args.order.now c.loop-i.i
    c.loop-i-test.true in let long = length-take-le c.args.np c.args.order.now
    c.requires.np_in_bounds_2.0 in (
      omega arith,
      omega arith,
      c.loop-i.invariant.2,
      c.loop-i.invariant.3,
      c.loop-i.invariant.4,
      group_skip c.args.np (takes_in c.args.triangles.now c.args.handles.now c.args.n c.args.rows.now c.args.tsorted.now c.args.tstarts.now c.args.least
          c.args.most) c.args.asorted.now c.args.astarts.now (take c.args.np c.args.order.now) c.args.assigned.now c.loop-i.assigned c.loop-i.queue c.loop-i.offsets c.loop-i.ng
          c.loop-i.tail c.loop-i.i c.loop-i.invariant.5 (omega (arith, long, c.loop-i-test.true)) (omega (arith, sb, sa)) (λ z. c.if-assigned-s-ne0.true (ap (λ (k : ℕ). get_or c.loop-i.assigned k 0) (sym sa) ∙ z)),
    )

pub overflow_cast-ng : goal.overflow_cast-ng
overflow_cast-ng c = omega (arith, c.requires.np_le_most_triangles)

pub overflow_add-ng : goal.overflow_add-ng
overflow_add-ng c = omega (arith, c.requires.np_le_most_triangles)

pub start_group-tail-requires : goal.start_group-tail-requires
start_group-tail-requires c =
    let sb = seed_below c.args.np c.args.order.now c.loop-i.i c.requires.np_in_bounds_2.1 c.requires.np_in_bounds_2.0 c.loop-i-test.true in let sa = seed_at c.args.np c.args.order.now c.loop-i.i
    c.loop-i-test.true in let long = length-take-le c.args.np c.args.order.now c.requires.np_in_bounds_2.0 in
    let free = group_free c.args.np (takes_in c.args.triangles.now c.args.handles.now c.args.n c.args.rows.now c.args.tsorted.now c.args.tstarts.now c.args.least c.args.most) c.args.asorted.now c.args.astarts.now (take c.args.np c.args.order.now) c.args.assigned.now
    c.loop-i.assigned c.loop-i.queue c.loop-i.offsets c.loop-i.ng c.loop-i.tail
    c.loop-i.i c.loop-i.invariant.5 (omega (arith, long, c.loop-i-test.true)) (omega (arith, sb, sa)) (ap (λ (k : ℕ). get_or c.loop-i.assigned k 0) sa ∙ c.if-assigned-s-ne0.false) in record {
      n_in_bounds = c.requires.n_in_bounds;
      np_in_bounds = c.requires.np_in_bounds;
      table = c.requires.table;
      seed_lt_np = (sb, omega arith);
      table_2 = c.requires.table_2;
      queue = c.loop-i.invariant.5.queue_is;
      seed_value = rw sa at free;
    }

pub overflow_add-ng-in-loop-i : goal.overflow_add-ng-in-loop-i
overflow_add-ng-in-loop-i c = omega (arith, c.requires.np_le_most_triangles)

pub overflow_cast-offsets : goal.overflow_cast-offsets
overflow_cast-offsets c = let t = c.start_group-tail.ensures.queue_2.total in omega (arith, t, c.requires.np_le_most_triangles)

pub offset_bounds-offsets-ng : goal.offset_bounds-offsets-ng
offset_bounds-offsets-ng c =
    omega (
      arith,
      (c.loop-i.invariant.4 ∙ length-set c.args.offsets.now 0 0),
      c.requires.np_in_bounds_3,
      c.requires.np_le_most_triangles,
    )

pub bounds-offsets-ng : goal.bounds-offsets-ng
bounds-offsets-ng c =
    omega (
      arith,
      (c.loop-i.invariant.4 ∙ length-set c.args.offsets.now 0 0),
      c.requires.np_in_bounds_3,
      c.loop-i-test.true,
    )

pub loop-i-preserved : goal.loop-i-preserved
loop-i-preserved c =
    let sb = seed_below c.args.np c.args.order.now c.loop-i.i c.requires.np_in_bounds_2.1 c.requires.np_in_bounds_2.0 c.loop-i-test.true in let sa = seed_at c.args.np c.args.order.now c.loop-i.i c.loop-i-test.true in let long = length-take-le c.args.np c.args.order.now c.requires.np_in_bounds_2.0 in (
      omega arith,
      omega arith,
      c.start_group-tail.auto.assigned ∙ c.loop-i.invariant.2,
      c.start_group-tail.auto.queue ∙ c.loop-i.invariant.3,
      length-set c.loop-i.offsets (c.loop-i.ng + 1) c.start_group-tail.result ∙ c.loop-i.invariant.4,
      group_more c.args.np (takes_in c.args.triangles.now c.args.handles.now c.args.n c.args.rows.now c.args.tsorted.now c.args.tstarts.now c.args.least c.args.most) c.args.asorted.now c.args.astarts.now (take c.args.np c.args.order.now) c.args.assigned.now c.loop-i.assigned
          c.loop-i.queue c.loop-i.offsets c.loop-i.ng c.loop-i.tail c.loop-i.i c.loop-i.invariant.5 (omega (
            arith,
            long,
            c.loop-i-test.true,
          )) (omega (arith, sb, sa)) (ap (λ (k : ℕ). get_or c.loop-i.assigned k 0) sa ∙ c.if-assigned-s-ne0.false)
          c.start_group-tail.new.assigned c.start_group-tail.new.queue c.start_group-tail.result c.start_group-tail.ensures.lower_bound
          c.start_group-tail.ensures.queue_2 (omega (
            arith,
            (c.loop-i.invariant.4 ∙ length-set c.args.offsets.now 0 0),
            c.requires.np_in_bounds_3,
            c.loop-i-test.true,
          ))
          (rw sa c.start_group-tail.ensures.by_index),
    )

pub shape_of-assigned : goal.shape_of-assigned
shape_of-assigned c = c.loop-i.invariant.2

pub shape_of-queue : goal.shape_of-queue
shape_of-queue c = c.loop-i.invariant.3

pub shape_of-offsets : goal.shape_of-offsets
shape_of-offsets c = c.loop-i.invariant.4 ∙ length-set c.args.offsets.now 0 0

pub returns : goal.returns
returns c =
    let long = length-take-le c.args.np c.args.order.now c.requires.np_in_bounds_2.0 in record {
      upper_bound = omega arith;
      grouped = group_grouped c.args.np (takes_in c.args.triangles.now c.args.handles.now c.args.n c.args.rows.now c.args.tsorted.now c.args.tstarts.now c.args.least c.args.most) c.args.asorted.now c.args.astarts.now (take c.args.np c.args.order.now) c.args.assigned.now
          c.loop-i.assigned c.loop-i.queue c.loop-i.offsets c.loop-i.ng c.loop-i.tail c.loop-i.i c.loop-i.invariant.5;
      by_index = group_done c.args.np (takes_in c.args.triangles.now c.args.handles.now c.args.n c.args.rows.now c.args.tsorted.now c.args.tstarts.now
          c.args.least c.args.most) c.args.asorted.now c.args.astarts.now (take c.args.np c.args.order.now) c.args.assigned.now c.loop-i.assigned c.loop-i.queue c.loop-i.offsets c.loop-i.ng c.loop-i.tail c.loop-i.i c.loop-i.invariant.5
          (omega (arith, long, c.loop-i-test.false));
    }
