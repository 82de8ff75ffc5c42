-- `arguments::settings_from` meets its contract: each setting from its place.
use Rattle.arguments.specs.Settings.{given_settings}
use borrow.Author.Rules.{rules}
use Rattle.arguments.proofs.settings_from.Goals as goal

pub bounds-counts-4 : goal.bounds-counts-4
unfolding given_settings
bounds-counts-4 c = search rules

pub curve_of-curve-requires : goal.curve_of-curve-requires
unfolding given_settings
curve_of-curve-requires c = tt

pub bounds-counts-3 : goal.bounds-counts-3
unfolding given_settings
bounds-counts-3 c = search rules

pub bounds-floats-7 : goal.bounds-floats-7
unfolding given_settings
bounds-floats-7 c = search rules

pub bounds-floats-8 : goal.bounds-floats-8
unfolding given_settings
bounds-floats-8 c = search rules

pub bounds-floats-9 : goal.bounds-floats-9
unfolding given_settings
bounds-floats-9 c = search rules

pub bounds-floats-10 : goal.bounds-floats-10
unfolding given_settings
bounds-floats-10 c = search rules

pub air_from-air-requires : goal.air_from-air-requires
unfolding given_settings
air_from-air-requires c = c.requires.0

pub bounds-counts-0 : goal.bounds-counts-0
unfolding given_settings
bounds-counts-0 c = search rules

pub bounds-counts-1 : goal.bounds-counts-1
unfolding given_settings
bounds-counts-1 c = search rules

pub bounds-counts-2 : goal.bounds-counts-2
unfolding given_settings
bounds-counts-2 c = search rules

pub bounds-floats-0 : goal.bounds-floats-0
unfolding given_settings
bounds-floats-0 c = search rules

pub bounds-floats-1 : goal.bounds-floats-1
unfolding given_settings
bounds-floats-1 c = search rules

pub bounds-floats-2 : goal.bounds-floats-2
unfolding given_settings
bounds-floats-2 c = search rules

pub bounds-floats-3 : goal.bounds-floats-3
unfolding given_settings
bounds-floats-3 c = search rules

pub bounds-floats-4 : goal.bounds-floats-4
unfolding given_settings
bounds-floats-4 c = search rules

pub bounds-floats-5 : goal.bounds-floats-5
unfolding given_settings
bounds-floats-5 c = search rules

pub bounds-floats-6 : goal.bounds-floats-6
unfolding given_settings
bounds-floats-6 c = search rules

pub bounds-counts-5 : goal.bounds-counts-5
unfolding given_settings
bounds-counts-5 c = search rules

pub bounds-floats-11 : goal.bounds-floats-11
unfolding given_settings
bounds-floats-11 c = search rules

pub returns : goal.returns
unfolding given_settings
returns c = rw (
  ← c.curve_of-curve.ensures,
  ← c.air_from-air.ensures,
)
