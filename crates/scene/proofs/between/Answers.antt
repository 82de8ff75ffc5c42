-- `scene::between` meets its contract: its two tests are those of the definition.
use Rattle.scene.specs.Limits.{between_of}
use Rattle.scene.proofs.between.Goals as goal

pub returns-then-low-x : goal.returns-then-low-x
unfolding between_of
returns-then-low-x c = rw c.if-low-x.true

pub returns-else-low-x : goal.returns-else-low-x
unfolding between_of
returns-else-low-x c = rw c.if-low-x.false
