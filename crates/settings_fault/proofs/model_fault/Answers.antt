-- `settings_fault::model_fault` meets its contract: test by test.
use Rattle.settings_fault.specs.Fault.{model_tests}
use Rattle.settings_fault.proofs.model_fault.Goals as goal

pub returns : goal.returns
unfolding model_tests
returns c =
    rw (
      ← c.model_number.ensures,
      ← c.model_number-2.ensures,
      ← c.model_number-3.ensures,
      ← c.model_number-4.ensures,
      ← c.probe_fault.ensures,
      ← c.pick.ensures,
      ← c.pick-2.ensures,
      ← c.pick-3.ensures,
      ← c.pick-4.ensures,
    )

pub model_number-requires : goal.model_number-requires
model_number-requires c = tt

pub model_number-requires-2 : goal.model_number-requires-2
model_number-requires-2 c = tt

pub model_number-requires-3 : goal.model_number-requires-3
model_number-requires-3 c = tt

pub model_number-requires-4 : goal.model_number-requires-4
model_number-requires-4 c = tt

pub probe_fault-requires : goal.probe_fault-requires
probe_fault-requires c = tt

pub pick-requires : goal.pick-requires
pick-requires c = tt

pub pick-requires-2 : goal.pick-requires-2
pick-requires-2 c = tt

pub pick-requires-3 : goal.pick-requires-3
pick-requires-3 c = tt

pub pick-requires-4 : goal.pick-requires-4
pick-requires-4 c = tt
