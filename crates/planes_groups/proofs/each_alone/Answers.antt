-- `planes_groups::each_alone` meets its contract: the loop keeps `Alone`.
use mathlib.Core.Path.{◌≡◌, refl, ◌∙◌}
use Prim.Native.Nat.{◌+◌, ◌<◌}
use native.Mathlib.Omega.{arith}
use lib.ListN.{length, get_or, set, length-set}
use lib.Seq.{get_or-set_same}
use Rattle.planes_groups.proofs.Grouping.{Alone, alone_none, alone_more, alone_grouped}
use Rattle.planes_groups.proofs.each_alone.Goals as goal

pub bounds-offsets-0 : goal.bounds-offsets-0
bounds-offsets-0 c = omega (arith, c.requires.np_in_bounds_3)

pub loop-i-init : goal.loop-i-init
loop-i-init c =
    let room : 0 < length c.args.offsets.now = omega (arith, c.requires.np_in_bounds_3) in (omega arith, refl, refl, alone_none c.args.order.now c.args.queue.now (set c.args.offsets.now 0 0) (get_or-set_same c.args.offsets.now 0 0 0 room))

pub offset_bounds-order-i : goal.offset_bounds-order-i
offset_bounds-order-i c = omega (arith, c.requires.np_in_bounds.0)

pub bounds-order-i : goal.bounds-order-i
bounds-order-i c = omega (arith, c.requires.np_in_bounds.0)

pub offset_bounds-queue-i : goal.offset_bounds-queue-i
offset_bounds-queue-i c = omega (arith, c.loop-i.invariant.1, c.requires.np_in_bounds_2)

pub bounds-queue-i : goal.bounds-queue-i
bounds-queue-i c = omega (arith, c.loop-i.invariant.1, c.requires.np_in_bounds_2)

pub offset_bounds-offsets-i : goal.offset_bounds-offsets-i
offset_bounds-offsets-i c =
    omega (arith, c.loop-i.invariant.2 ∙ length-set c.args.offsets.now 0 0, c.requires.np_in_bounds_3, c.requires.np_le_most_triangles)

pub bounds-offsets-i : goal.bounds-offsets-i
bounds-offsets-i c =
    omega (arith, c.loop-i.invariant.2 ∙ length-set c.args.offsets.now 0 0, c.requires.np_in_bounds_3, c.loop-i-test.true)

pub loop-i-preserved : goal.loop-i-preserved
loop-i-preserved c = (
  omega arith,
  length-set c.loop-i.queue c.loop-i.i (get_or c.args.order.now c.loop-i.i 0) ∙ c.loop-i.invariant.1,
  length-set c.loop-i.offsets (c.loop-i.i + 1) (c.loop-i.i + 1) ∙ c.loop-i.invariant.2,
  alone_more c.args.order.now c.loop-i.queue c.loop-i.offsets c.loop-i.i (omega (arith, c.requires.np_in_bounds.0, c.loop-i-test.true)) (omega (arith, c.loop-i.invariant.1, c.requires.np_in_bounds_2, c.loop-i-test.true)) (omega (arith, c.loop-i.invariant.2 ∙ length-set c.args.offsets.now 0 0, c.requires.np_in_bounds_3, c.loop-i-test.true)) c.loop-i.invariant.3,
)

pub shape_of-queue : goal.shape_of-queue
shape_of-queue c = c.loop-i.invariant.1

pub shape_of-offsets : goal.shape_of-offsets
shape_of-offsets c = c.loop-i.invariant.2 ∙ length-set c.args.offsets.now 0 0

pub returns : goal.returns
returns c =
    let e : c.loop-i.i ≡ c.args.np = omega arith in
    let m : Alone c.args.order.now c.loop-i.queue c.loop-i.offsets c.args.np = rw e at c.loop-i.invariant.3 in record {
      grouped = alone_grouped c.args.order.now c.loop-i.queue c.loop-i.offsets c.args.np c.requires.np_in_bounds.1 m;
      np_after = m.is;
    }
