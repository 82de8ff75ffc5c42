-- `tree_trace::edges_at` meets its contract: seven reads.
use mathlib.Core.Path.{refl}
use Rattle.tree_trace.specs.Leaf.{edges_at_of}
use Rattle.tree_trace.proofs.edges_at.Goals as goal

pub returns : goal.returns
unfolding edges_at_of
returns c = refl
