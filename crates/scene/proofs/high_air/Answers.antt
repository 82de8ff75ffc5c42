-- `scene::high_air` meets its contract: test by test.
use Rattle.scene.specs.Limits.{high_air_of}
use Rattle.scene.proofs.high_air.Goals as goal

pub air_number-requires : goal.air_number-requires
unfolding high_air_of
air_number-requires c = tt

pub air_number-requires-then-air_number : goal.air_number-requires-then-air_number
unfolding high_air_of
air_number-requires-then-air_number c = tt

pub air_number-requires-then-air_number-2 : goal.air_number-requires-then-air_number-2
unfolding high_air_of
air_number-requires-then-air_number-2 c = tt

pub air_number-requires-then-air_number-3 : goal.air_number-requires-then-air_number-3
unfolding high_air_of
air_number-requires-then-air_number-3 c = tt

pub returns-then-air_number-3 : goal.returns-then-air_number-3
unfolding high_air_of
returns-then-air_number-3 c = rw (
  ← c.air_number.ensures,
  c.if-air_number.true,
  ← c.air_number-then-air_number.ensures,
  c.if-air_number-2.true,
  ← c.air_number-then-air_number-2.ensures,
  c.if-air_number-3.true,
  ← c.air_number-then-air_number-3.ensures,
)

pub returns-else-air_number-3 : goal.returns-else-air_number-3
unfolding high_air_of
returns-else-air_number-3 c = rw (
  ← c.air_number.ensures,
  c.if-air_number.true,
  ← c.air_number-then-air_number.ensures,
  c.if-air_number-2.true,
  ← c.air_number-then-air_number-2.ensures,
  c.if-air_number-3.false,
)

pub returns-else-air_number-2 : goal.returns-else-air_number-2
unfolding high_air_of
returns-else-air_number-2 c = rw (
  ← c.air_number.ensures,
  c.if-air_number.true,
  ← c.air_number-then-air_number.ensures,
  c.if-air_number-2.false,
)

pub returns-else-air_number : goal.returns-else-air_number
unfolding high_air_of
returns-else-air_number c = rw (← c.air_number.ensures, c.if-air_number.false)
