-- `planes_fit::plane_row` meets its contract: by its test for a patch alone.
use native.Mathlib.Omega.{arith}
use borrow.Author.Tests.{eq-eqb, ne_eqb}
use Rattle.order.specs.Sort.{Below}
use Rattle.order.proofs.Runs.{head_at}
use Rattle.planes_fit.specs.Rows.{plane_row_of}
use Rattle.planes_fit.proofs.plane_row.Goals as goal

pub overflow_cast-p : goal.overflow_cast-p
overflow_cast-p c = omega (arith, c.shared_slice_known-4-1.given 0)

pub row_at-seed-requires : goal.row_at-seed-requires
unfolding Below
row_at-seed-requires c = let b = c.requires.below 0 c.requires.group_nonzero in omega (arith, c.requires.np_in_bounds, b)

pub returns-then-group-eq1 : goal.returns-then-group-eq1
unfolding plane_row_of
returns-then-group-eq1 c = rw (eq-eqb _ _ c.if-group-eq1.true, head_at c.args.group.now, ← c.row_at-seed.ensures) c.alone.ensures

pub fitted-requires : goal.fitted-requires
fitted-requires c = let p = c.requires in record {
  n_in_bounds = p.n_in_bounds;
  n_in_bounds_2 = p.n_in_bounds_2;
  below = p.below_2;
}

pub returns : goal.returns
unfolding plane_row_of
returns c = rw (ne_eqb _ _ c.if-group-eq1.false, head_at c.args.group.now, ← c.row_at-seed.ensures, ← c.sums_of-s.ensures) c.fitted.ensures

pub alone-requires : goal.alone-requires
alone-requires c = tt
