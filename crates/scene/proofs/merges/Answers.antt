-- `scene::merges` meets its contract: test by test, by the contracts of `between` and `is_finite`.
use Rattle.scene.specs.Limits.{merges_of}
use Rattle.scene.proofs.merges.Goals as goal

pub between-requires : goal.between-requires
unfolding merges_of
between-requires c = tt

pub is_finite-requires : goal.is_finite-requires
unfolding merges_of
is_finite-requires c = tt

pub is_finite-requires-then-is_finite : goal.is_finite-requires-then-is_finite
unfolding merges_of
is_finite-requires-then-is_finite c = tt

pub is_finite-requires-then-is_finite-2 : goal.is_finite-requires-then-is_finite-2
unfolding merges_of
is_finite-requires-then-is_finite-2 c = tt

pub returns-then-is_finite-2 : goal.returns-then-is_finite-2
unfolding merges_of
returns-then-is_finite-2 c = rw (
  ← c.between.ensures,
  c.if-between.true,
  ← c.is_finite.ensures,
  c.if-is_finite.true,
  ← c.is_finite-then-is_finite.ensures,
  c.if-is_finite-2.true,
  ← c.is_finite-then-is_finite-2.ensures,
)

pub returns-else-is_finite-2 : goal.returns-else-is_finite-2
unfolding merges_of
returns-else-is_finite-2 c = rw (
  ← c.between.ensures,
  c.if-between.true,
  ← c.is_finite.ensures,
  c.if-is_finite.true,
  ← c.is_finite-then-is_finite.ensures,
  c.if-is_finite-2.false,
)

pub returns-else-is_finite : goal.returns-else-is_finite
unfolding merges_of
returns-else-is_finite c = rw (
  ← c.between.ensures,
  c.if-between.true,
  ← c.is_finite.ensures,
  c.if-is_finite.false,
)

pub returns-else-between : goal.returns-else-between
unfolding merges_of
returns-else-between c = rw (← c.between.ensures, c.if-between.false)
