-- `scene::later_settings` meets its contract: test by test.
use Rattle.scene.specs.Limits.{later_settings_of}
use Rattle.scene.proofs.later_settings.Goals as goal

pub probe_settings-requires : goal.probe_settings-requires
unfolding later_settings_of
probe_settings-requires c = tt

pub low_air-requires : goal.low_air-requires
unfolding later_settings_of
low_air-requires c = tt

pub high_air-requires : goal.high_air-requires
unfolding later_settings_of
high_air-requires c = tt

pub returns-then-low_air : goal.returns-then-low_air
unfolding later_settings_of
returns-then-low_air c = rw (
  ← c.probe_settings.ensures,
  c.if-probe_settings.true,
  ← c.low_air.ensures,
  c.if-low_air.true,
  ← c.high_air.ensures,
)

pub returns-else-low_air : goal.returns-else-low_air
unfolding later_settings_of
returns-else-low_air c = rw (
  ← c.probe_settings.ensures,
  c.if-probe_settings.true,
  ← c.low_air.ensures,
  c.if-low_air.false,
)

pub returns-else-probe_settings : goal.returns-else-probe_settings
unfolding later_settings_of
returns-else-probe_settings c = rw (← c.probe_settings.ensures, c.if-probe_settings.false)
