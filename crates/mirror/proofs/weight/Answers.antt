-- `mirror::weight` meets its contract: what its calls promise, and its tests.
use Rattle.mirror.specs.Border.{weight_of}
use Rattle.mirror.proofs.weight.Goals as goal

pub returns-then-fade : goal.returns-then-fade
unfolding weight_of
returns-then-fade c = rw (c.if-fade.true, ← c.border_distance.ensures, ← c.smooth.ensures)

pub returns : goal.returns
unfolding weight_of
returns c = rw c.if-fade.false
