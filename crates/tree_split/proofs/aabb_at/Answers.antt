-- `tree_split::aabb_at` meets its contract: six reads.
use mathlib.Core.Path.{refl}
use Rattle.tree_split.specs.Split.{aabb_at_of}
use Rattle.tree_split.proofs.aabb_at.Goals as goal

pub returns : goal.returns
unfolding aabb_at_of
returns c = refl
