-- `scene::rates` meets its contract: test by test, by the contracts of `above_zero` and `between`.
use Rattle.scene.specs.Limits.{rates_of}
use Rattle.scene.proofs.rates.Goals as goal

pub above_zero-requires : goal.above_zero-requires
unfolding rates_of
above_zero-requires c = tt

pub between-requires : goal.between-requires
unfolding rates_of
between-requires c = tt

pub between-requires-then-between : goal.between-requires-then-between
unfolding rates_of
between-requires-then-between c = tt

pub returns-then-between : goal.returns-then-between
unfolding rates_of
returns-then-between c = rw (
  ← c.above_zero.ensures,
  c.if-above_zero.true,
  ← c.between.ensures,
  c.if-between.true,
  ← c.between-then-between.ensures,
)

pub returns-else-between : goal.returns-else-between
unfolding rates_of
returns-else-between c = rw (
  ← c.above_zero.ensures,
  c.if-above_zero.true,
  ← c.between.ensures,
  c.if-between.false,
)

pub returns-else-above_zero : goal.returns-else-above_zero
unfolding rates_of
returns-else-above_zero c = rw (← c.above_zero.ensures, c.if-above_zero.false)
