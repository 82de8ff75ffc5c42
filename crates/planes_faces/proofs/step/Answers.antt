-- `planes_faces::step` meets its contract: its call is that of the definition.
use Rattle.planes_faces.specs.Key.{step_of}
use Rattle.planes_faces.proofs.step.Goals as goal

pub returns : goal.returns
unfolding step_of
returns c = c.whole.ensures
