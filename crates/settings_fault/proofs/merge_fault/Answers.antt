-- `settings_fault::merge_fault` meets its contract: test by test.
use Rattle.settings_fault.specs.Fault.{merge_tests}
use Rattle.settings_fault.proofs.merge_fault.Goals as goal

pub returns : goal.returns
unfolding merge_tests
returns c =
    rw (
      ← c.between.ensures,
      ← c.is_finite.ensures,
      ← c.is_finite-2.ensures,
      ← c.is_finite-3.ensures,
      ← c.model_fault.ensures,
      ← c.pick.ensures,
      ← c.pick-2.ensures,
      ← c.pick-3.ensures,
      ← c.pick-4.ensures,
    )

pub between-requires : goal.between-requires
between-requires c = tt

pub is_finite-requires : goal.is_finite-requires
is_finite-requires c = tt

pub is_finite-requires-2 : goal.is_finite-requires-2
is_finite-requires-2 c = tt

pub is_finite-requires-3 : goal.is_finite-requires-3
is_finite-requires-3 c = tt

pub model_fault-requires : goal.model_fault-requires
model_fault-requires c = tt

pub pick-requires : goal.pick-requires
pick-requires c = tt

pub pick-requires-2 : goal.pick-requires-2
pick-requires-2 c = tt

pub pick-requires-3 : goal.pick-requires-3
pick-requires-3 c = tt

pub pick-requires-4 : goal.pick-requires-4
pick-requires-4 c = tt
