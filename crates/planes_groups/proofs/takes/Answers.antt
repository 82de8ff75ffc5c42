-- `planes_groups::takes` meets its contract: from those of its calls.
use Prim.Native.Nat.{◌+◌}
use native.Mathlib.Omega.{arith}
use Rattle.planes_links.specs.Words.{row_in}
use Rattle.planes_groups.specs.Rows.{takes_in}
use Rattle.planes_groups.proofs.Seeding.{table_part}
use Rattle.planes_groups.proofs.takes.Goals as goal

pub normal_of-normal-requires : goal.normal_of-normal-requires
normal_of-normal-requires c =
    omega (arith, c.requires.np_in_bounds, c.requires.a_lt_np)

pub normal_of-other-requires : goal.normal_of-other-requires
normal_of-other-requires c =
    omega (arith, c.requires.np_in_bounds, c.requires.a_lt_np)

pub overflow_mul-offset : goal.overflow_mul-offset
overflow_mul-offset c =
    omega (arith, c.requires.np_in_bounds, c.requires.a_lt_np)

pub overflow_add-offset : goal.overflow_add-offset
overflow_add-offset c =
    omega (arith, c.requires.np_in_bounds, c.requires.a_lt_np)

pub offset_bounds-rows-a : goal.offset_bounds-rows-a
offset_bounds-rows-a c =
    omega (arith, c.requires.np_in_bounds, c.requires.a_lt_np)

pub bounds-rows-a : goal.bounds-rows-a
bounds-rows-a c =
    omega (arith, c.requires.np_in_bounds, c.requires.a_lt_np)

pub offset_bounds-tstarts-b : goal.offset_bounds-tstarts-b
offset_bounds-tstarts-b c =
    let t = c.requires.table.long in omega (arith, t, c.requires.a_lt_np)

pub bounds-tstarts-b : goal.bounds-tstarts-b
bounds-tstarts-b c =
    let t = c.requires.table.long in omega (arith, t, c.requires.a_lt_np)

pub overflow_cast-from : goal.overflow_cast-from
overflow_cast-from c = omega (arith, (c.shared_slice_known-then-is_tilted-2-1.given c.args.b).fits)

pub overflow_add-to : goal.overflow_add-to
overflow_add-to c =
    let t = c.requires.table.long in omega (arith, t, c.requires.a_lt_np)

pub offset_bounds-tstarts-b-then-is_tilted : goal.offset_bounds-tstarts-b-then-is_tilted
offset_bounds-tstarts-b-then-is_tilted c =
    let t = c.requires.table.long in omega (arith, t, c.requires.a_lt_np)

pub bounds-tstarts-b-then-is_tilted : goal.bounds-tstarts-b-then-is_tilted
bounds-tstarts-b-then-is_tilted c =
    let t = c.requires.table.long in omega (arith, t, c.requires.a_lt_np)

pub overflow_cast-to : goal.overflow_cast-to
overflow_cast-to c = omega (arith, (c.shared_slice_known-then-is_tilted-3-1.given (c.args.b + 1)).fits)

pub offset_bounds-tsorted-from : goal.offset_bounds-tsorted-from
offset_bounds-tsorted-from c =
    let f = c.requires.table.bounds in let r = f.rise c.args.b c.requires.a_lt_np.1 in let e = f.ends (c.args.b + 1) (omega (arith, c.requires.a_lt_np.1)) in omega (arith, r, e)

pub slice_bounds-is_within-count : goal.slice_bounds-is_within-count
slice_bounds-is_within-count c =
    let f = c.requires.table.bounds in let r = f.rise c.args.b c.requires.a_lt_np.1 in let e = f.ends (c.args.b + 1) (omega (arith, c.requires.a_lt_np.1)) in omega (arith, r, e)

pub slice_bounds-is_within-start : goal.slice_bounds-is_within-start
slice_bounds-is_within-start c =
    let f = c.requires.table.bounds in let r = f.rise c.args.b c.requires.a_lt_np.1 in let e = f.ends (c.args.b + 1) (omega (arith, c.requires.a_lt_np.1)) in omega (arith, r, e)

pub slice_bounds-is_within-end : goal.slice_bounds-is_within-end
slice_bounds-is_within-end c =
    let f = c.requires.table.bounds in let r = f.rise c.args.b c.requires.a_lt_np.1 in let e = f.ends (c.args.b + 1) (omega (arith, c.requires.a_lt_np.1)) in omega (arith, r, e)

pub is_within-requires : goal.is_within-requires
is_within-requires c = record {
  n_in_bounds = c.requires.n_in_bounds;
  below = table_part c.args.np c.args.n c.args.tsorted.now c.args.tstarts.now c.args.b c.requires.table c.requires.a_lt_np.1;
}

pub returns-then-is_tilted : goal.returns-then-is_tilted
unfolding takes_in row_in
returns-then-is_tilted c = rw (← c.normal_of-normal.ensures, ← c.normal_of-other.ensures, ← c.is_tilted.ensures, c.if-is_tilted.true) c.is_within.ensures

pub returns : goal.returns
unfolding takes_in
returns c = rw (← c.normal_of-normal.ensures, ← c.normal_of-other.ensures, ← c.is_tilted.ensures, c.if-is_tilted.false)

pub is_tilted-requires : goal.is_tilted-requires
is_tilted-requires c = tt
