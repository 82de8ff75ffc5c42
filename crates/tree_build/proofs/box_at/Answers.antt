-- `tree_build::box_at` meets its contract: six reads.
use mathlib.Core.Path.{refl}
use Rattle.tree_build.specs.Areas.{box_at_of}
use Rattle.tree_build.proofs.box_at.Goals as goal

pub returns : goal.returns
unfolding box_at_of
returns c = refl
