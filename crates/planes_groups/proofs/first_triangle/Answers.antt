-- `planes_groups::first_triangle` meets its contract: the row has a first triangle, or none (`head_some`, `head_none`).
use Prim.Native.Nat.{◌+◌}
use native.Mathlib.Omega.{arith}
use Rattle.planes_groups.proofs.Seeding.{head_some, head_none}
use Rattle.planes_groups.proofs.first_triangle.Goals as goal

pub offset_bounds-tstarts-p : goal.offset_bounds-tstarts-p
offset_bounds-tstarts-p c = let t = c.requires.table.long in omega (arith, t)

pub bounds-tstarts-p : goal.bounds-tstarts-p
bounds-tstarts-p c = let t = c.requires.table.long in omega (arith, t)

pub overflow_cast-from : goal.overflow_cast-from
overflow_cast-from c = omega (arith, (c.shared_slice_known-1.given c.args.p).fits)

pub overflow_add-to : goal.overflow_add-to
overflow_add-to c = let t = c.requires.table.long in omega (arith, t)

pub offset_bounds-tstarts-p-2 : goal.offset_bounds-tstarts-p-2
offset_bounds-tstarts-p-2 c = let t = c.requires.table.long in omega (arith, t)

pub bounds-tstarts-p-2 : goal.bounds-tstarts-p-2
bounds-tstarts-p-2 c = let t = c.requires.table.long in omega (arith, t)

pub overflow_cast-to : goal.overflow_cast-to
overflow_cast-to c = omega (arith, (c.shared_slice_known-2-1.given (c.args.p + 1)).fits)

pub offset_bounds-tsorted-from : goal.offset_bounds-tsorted-from
offset_bounds-tsorted-from c =
    let e = c.requires.table.bounds.ends (c.args.p + 1) (omega (arith, c.requires.p_lt_np)) in omega (arith, e, c.if-from-to.true)

pub bounds-tsorted-from : goal.bounds-tsorted-from
bounds-tsorted-from c =
    let e = c.requires.table.bounds.ends (c.args.p + 1) (omega (arith, c.requires.p_lt_np)) in omega (arith, e, c.if-from-to.true)

pub returns-then-from-to : goal.returns-then-from-to
returns-then-from-to c =
    head_some c.args.tsorted.now c.args.tstarts.now c.args.p c.if-from-to.true

pub returns : goal.returns
returns c =
    head_none c.args.tsorted.now c.args.tstarts.now c.args.p c.if-from-to.false
