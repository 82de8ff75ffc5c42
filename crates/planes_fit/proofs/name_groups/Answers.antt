-- `planes_fit::name_groups` meets its contract: the groups so far are named.
use mathlib.Core.Path.{◌∙◌, refl}
use Prim.Native.Nat.{◌+◌}
use native.Mathlib.Omega.{arith}
use lib.ListN.{length}
use Rattle.order.proofs.Laws.{below_more}
use Rattle.planes_fit.proofs.Naming.{assigned_more, assigned_none}
use Rattle.planes_fit.proofs.name_groups.Goals as goal

pub loop-g-init : goal.loop-g-init
loop-g-init c = (omega arith, (refl, assigned_none _ _ _ (length c.args.group_of.now) (c.fill.ensures.after (λ y e. e))))

pub offset_bounds-offsets-g : goal.offset_bounds-offsets-g
offset_bounds-offsets-g c =
    omega (arith, c.well_formed, c.requires.grouped.long, c.loop-g-test.true)

pub bounds-offsets-g : goal.bounds-offsets-g
bounds-offsets-g c = omega (arith, c.requires.grouped.long, c.loop-g-test.true)

pub overflow_cast-from : goal.overflow_cast-from
overflow_cast-from c = omega (arith, c.shared_slice_known-in-loop-g-1.given c.loop-g.g)

pub overflow_add-to : goal.overflow_add-to
overflow_add-to c =
    omega (arith, c.well_formed, c.requires.grouped.long, c.loop-g-test.true)

pub offset_bounds-offsets-g-in-loop-g : goal.offset_bounds-offsets-g-in-loop-g
offset_bounds-offsets-g-in-loop-g c =
    omega (arith, c.well_formed, c.requires.grouped.long, c.loop-g-test.true)

pub bounds-offsets-g-in-loop-g : goal.bounds-offsets-g-in-loop-g
bounds-offsets-g-in-loop-g c = omega (arith, c.requires.grouped.long, c.loop-g-test.true)

pub overflow_cast-to : goal.overflow_cast-to
overflow_cast-to c = omega (arith, c.shared_slice_known-in-loop-g-2-1.given (c.loop-g.g + 1))

pub overflow_add-g : goal.overflow_add-g
overflow_add-g c =
    omega (arith, c.well_formed, c.requires.grouped.long, c.loop-g-test.true)

pub offset_bounds-queue-from : goal.offset_bounds-queue-from
offset_bounds-queue-from c =
    omega (
      arith,
      c.well_formed,
      c.requires.grouped.rise _ c.loop-g-test.true,
      c.requires.grouped.ends (c.loop-g.g + 1) (omega (arith, c.loop-g-test.true)),
    )

pub slice_bounds-name_group-count : goal.slice_bounds-name_group-count
slice_bounds-name_group-count c = omega (arith, c.requires.grouped.rise _ c.loop-g-test.true)

pub slice_bounds-name_group-start : goal.slice_bounds-name_group-start
slice_bounds-name_group-start c = omega (arith, c.requires.grouped.rise _ c.loop-g-test.true)

pub slice_bounds-name_group-end : goal.slice_bounds-name_group-end
slice_bounds-name_group-end c = c.requires.grouped.ends (c.loop-g.g + 1) (omega (arith, c.loop-g-test.true))

pub overflow_cast-g : goal.overflow_cast-g
overflow_cast-g c = omega (arith, c.requires.ng_le_most_triangles, c.loop-g-test.true)

pub name_group-requires : goal.name_group-requires
name_group-requires c =
    below_more _ _ _ (omega (arith, c.requires.np_in_bounds, c.loop-g.invariant.1.0, c.fill.auto.self)) (c.requires.grouped.below _ c.loop-g-test.true)

pub loop-g-smaller : goal.loop-g-smaller
loop-g-smaller c = omega (arith, c.loop-g-test.true)

pub loop-g-preserved : goal.loop-g-preserved
loop-g-preserved c = (
  omega (arith, c.loop-g-test.true),
  (
    c.name_group.auto.group_of ∙ c.loop-g.invariant.1.0,
    assigned_more _ _ _ _ _ _ _ c.requires.grouped c.loop-g-test.true c.loop-g.invariant.1.1 c.name_group.ensures,
  ),
)

pub shape_of-group_of : goal.shape_of-group_of
shape_of-group_of c = c.loop-g.invariant.1.0 ∙ c.fill.auto.self

pub returns : goal.returns
returns c = record {
  by_index = λ p g h. c.loop-g.invariant.1.1.is p g (omega (arith, h, c.loop-g-test.false));
  by_index_2 = λ p. omega (arith, c.loop-g.invariant.1.1.bound p, c.loop-g.invariant.0);
}
