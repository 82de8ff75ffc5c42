-- `tree_trace::corner_at` meets its contract: three reads.
use mathlib.Core.Path.{refl}
use Rattle.tree_trace.specs.Leaf.{corner_at_of}
use Rattle.tree_trace.proofs.corner_at.Goals as goal

pub returns : goal.returns
unfolding corner_at_of
returns c = refl
