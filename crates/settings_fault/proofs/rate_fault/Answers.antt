-- `settings_fault::rate_fault` meets its contract: test by test.
use Rattle.settings_fault.specs.Fault.{rate_tests}
use Rattle.settings_fault.proofs.rate_fault.Goals as goal

pub returns : goal.returns
unfolding rate_tests
returns c =
    rw (
      ← c.above_zero.ensures,
      ← c.between.ensures,
      ← c.between-2.ensures,
      ← c.merge_fault.ensures,
      ← c.pick.ensures,
      ← c.pick-2.ensures,
      ← c.pick-3.ensures,
    )

pub above_zero-requires : goal.above_zero-requires
above_zero-requires c = tt

pub between-requires : goal.between-requires
between-requires c = tt

pub between-requires-2 : goal.between-requires-2
between-requires-2 c = tt

pub merge_fault-requires : goal.merge_fault-requires
merge_fault-requires c = tt

pub pick-requires : goal.pick-requires
pick-requires c = tt

pub pick-requires-2 : goal.pick-requires-2
pick-requires-2 c = tt

pub pick-requires-3 : goal.pick-requires-3
pick-requires-3 c = tt
