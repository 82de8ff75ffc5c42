-- `scene::model_numbers` meets its contract: number by number, by the contract of `model_number`.
use Rattle.scene.specs.Limits.{model_numbers_of}
use Rattle.scene.proofs.model_numbers.Goals as goal

pub model_number-requires : goal.model_number-requires
unfolding model_numbers_of
model_number-requires c = tt

pub model_number-requires-then-model_number : goal.model_number-requires-then-model_number
unfolding model_numbers_of
model_number-requires-then-model_number c = tt

pub model_number-requires-then-model_number-2 : goal.model_number-requires-then-model_number-2
unfolding model_numbers_of
model_number-requires-then-model_number-2 c = tt

pub model_number-requires-then-model_number-3 : goal.model_number-requires-then-model_number-3
unfolding model_numbers_of
model_number-requires-then-model_number-3 c = tt

pub returns-then-model_number-3 : goal.returns-then-model_number-3
unfolding model_numbers_of
returns-then-model_number-3 c = rw (
  ← c.model_number.ensures,
  c.if-model_number.true,
  ← c.model_number-then-model_number.ensures,
  c.if-model_number-2.true,
  ← c.model_number-then-model_number-2.ensures,
  c.if-model_number-3.true,
  ← c.model_number-then-model_number-3.ensures,
)

pub returns-else-model_number-3 : goal.returns-else-model_number-3
unfolding model_numbers_of
returns-else-model_number-3 c = rw (
  ← c.model_number.ensures,
  c.if-model_number.true,
  ← c.model_number-then-model_number.ensures,
  c.if-model_number-2.true,
  ← c.model_number-then-model_number-2.ensures,
  c.if-model_number-3.false,
)

pub returns-else-model_number-2 : goal.returns-else-model_number-2
unfolding model_numbers_of
returns-else-model_number-2 c = rw (
  ← c.model_number.ensures,
  c.if-model_number.true,
  ← c.model_number-then-model_number.ensures,
  c.if-model_number-2.false,
)

pub returns-else-model_number : goal.returns-else-model_number
unfolding model_numbers_of
returns-else-model_number c = rw (← c.model_number.ensures, c.if-model_number.false)
