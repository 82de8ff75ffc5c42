-- `settings_fault::probe_fault` meets its contract: test by test.
use Rattle.settings_fault.specs.Fault.{probe_tests}
use Rattle.settings_fault.proofs.probe_fault.Goals as goal

pub returns : goal.returns
unfolding probe_tests
returns c =
    rw (
      ← c.crossings_within.ensures,
      ← c.between.ensures,
      ← c.air_fault.ensures,
      ← c.pick.ensures,
      ← c.pick-2.ensures,
    )

pub crossings_within-requires : goal.crossings_within-requires
crossings_within-requires c = tt

pub between-requires : goal.between-requires
between-requires c = tt

pub air_fault-requires : goal.air_fault-requires
air_fault-requires c = tt

pub pick-requires : goal.pick-requires
pick-requires c = tt

pub pick-requires-2 : goal.pick-requires-2
pick-requires-2 c = tt
