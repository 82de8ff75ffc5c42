-- `front::finite_point` meets its contract: coordinate by coordinate, by that of `is_finite`.
use Rattle.front.specs.Asked.{is_finite_point}
use Rattle.front.proofs.finite_point.Goals as goal

pub is_finite-requires : goal.is_finite-requires
unfolding is_finite_point
is_finite-requires c = tt

pub is_finite-requires-then-is_finite : goal.is_finite-requires-then-is_finite
unfolding is_finite_point
is_finite-requires-then-is_finite c = tt

pub is_finite-requires-then-is_finite-2 : goal.is_finite-requires-then-is_finite-2
unfolding is_finite_point
is_finite-requires-then-is_finite-2 c = tt

pub returns-then-is_finite-2 : goal.returns-then-is_finite-2
unfolding is_finite_point
returns-then-is_finite-2 c = rw (
  ← c.is_finite.ensures,
  c.if-is_finite.true,
  ← c.is_finite-then-is_finite.ensures,
  c.if-is_finite-2.true,
  ← c.is_finite-then-is_finite-2.ensures,
)

pub returns-else-is_finite-2 : goal.returns-else-is_finite-2
unfolding is_finite_point
returns-else-is_finite-2 c = rw (
  ← c.is_finite.ensures,
  c.if-is_finite.true,
  ← c.is_finite-then-is_finite.ensures,
  c.if-is_finite-2.false,
)

pub returns-else-is_finite : goal.returns-else-is_finite
unfolding is_finite_point
returns-else-is_finite c = rw (← c.is_finite.ensures, c.if-is_finite.false)
