-- `scene::within_limits` meets its contract: group by group, by the contracts of `counts`, `rates`, `merges`, `model_numbers` and `later_settings`.
use Rattle.scene.specs.Limits.{settings_of}
use Rattle.scene.proofs.within_limits.Goals as goal

pub counts-requires : goal.counts-requires
unfolding settings_of
counts-requires c = tt

pub rates-requires : goal.rates-requires
unfolding settings_of
rates-requires c = tt

pub merges-requires : goal.merges-requires
unfolding settings_of
merges-requires c = tt

pub model_numbers-requires : goal.model_numbers-requires
unfolding settings_of
model_numbers-requires c = tt

pub later_settings-requires : goal.later_settings-requires
unfolding settings_of
later_settings-requires c = tt

pub returns-then-model_numbers : goal.returns-then-model_numbers
unfolding settings_of
returns-then-model_numbers c = rw (
  ← c.counts.ensures,
  c.if-counts.true,
  ← c.rates.ensures,
  c.if-rates.true,
  ← c.merges.ensures,
  c.if-merges.true,
  ← c.model_numbers.ensures,
  c.if-model_numbers.true,
  ← c.later_settings.ensures,
)

pub returns-else-model_numbers : goal.returns-else-model_numbers
unfolding settings_of
returns-else-model_numbers c = rw (
  ← c.counts.ensures,
  c.if-counts.true,
  ← c.rates.ensures,
  c.if-rates.true,
  ← c.merges.ensures,
  c.if-merges.true,
  ← c.model_numbers.ensures,
  c.if-model_numbers.false,
)

pub returns-else-merges : goal.returns-else-merges
unfolding settings_of
returns-else-merges c = rw (
  ← c.counts.ensures,
  c.if-counts.true,
  ← c.rates.ensures,
  c.if-rates.true,
  ← c.merges.ensures,
  c.if-merges.false,
)

pub returns-else-rates : goal.returns-else-rates
unfolding settings_of
returns-else-rates c = rw (← c.counts.ensures, c.if-counts.true, ← c.rates.ensures, c.if-rates.false)

pub returns-else-counts : goal.returns-else-counts
unfolding settings_of
returns-else-counts c = rw (← c.counts.ensures, c.if-counts.false)
