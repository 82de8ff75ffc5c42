-- `settings_fault::air_fault` meets its contract: test by test.
use Rattle.settings_fault.specs.Fault.{air_tests}
use Rattle.settings_fault.proofs.air_fault.Goals as goal

pub returns : goal.returns
unfolding air_tests
returns c =
    rw (
      ← c.air_number.ensures,
      ← c.air_number-2.ensures,
      ← c.air_number-3.ensures,
      ← c.air_number-4.ensures,
      ← c.high_air.ensures,
      ← c.pick.ensures,
      ← c.pick-2.ensures,
      ← c.pick-3.ensures,
      ← c.pick-4.ensures,
    )

pub air_number-requires : goal.air_number-requires
air_number-requires c = tt

pub air_number-requires-2 : goal.air_number-requires-2
air_number-requires-2 c = tt

pub air_number-requires-3 : goal.air_number-requires-3
air_number-requires-3 c = tt

pub air_number-requires-4 : goal.air_number-requires-4
air_number-requires-4 c = tt

pub high_air-requires : goal.high_air-requires
high_air-requires c = tt

pub pick-requires : goal.pick-requires
pick-requires c = tt

pub pick-requires-2 : goal.pick-requires-2
pick-requires-2 c = tt

pub pick-requires-3 : goal.pick-requires-3
pick-requires-3 c = tt

pub pick-requires-4 : goal.pick-requires-4
pick-requires-4 c = tt
