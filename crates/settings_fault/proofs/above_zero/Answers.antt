-- `settings_fault::above_zero` meets its contract: its two tests are those of the definition.
use Rattle.scene.specs.Limits.{above_zero_of}
use Rattle.settings_fault.proofs.above_zero.Goals as goal

pub returns-then-x : goal.returns-then-x
unfolding above_zero_of
returns-then-x c = rw c.if-x.true

pub returns-else-x : goal.returns-else-x
unfolding above_zero_of
returns-else-x c = rw c.if-x.false
