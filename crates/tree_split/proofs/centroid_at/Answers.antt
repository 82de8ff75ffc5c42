-- `tree_split::centroid_at` meets its contract: three reads.
use mathlib.Core.Path.{refl}
use Rattle.tree_split.specs.Split.{centroid_at_of}
use Rattle.tree_split.proofs.centroid_at.Goals as goal

pub returns : goal.returns
unfolding centroid_at_of
returns c = refl
