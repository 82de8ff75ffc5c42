-- `planes_fit::reach` meets its contract: corner by corner, by the contracts of `dot3`, `abs` and `max`.
use Rattle.planes_fit.specs.Fit.{reach_of}
use Rattle.planes_patches.specs.Triangles.{corners_of}
use Rattle.planes_fit.proofs.reach.Goals as goal

pub dot3-requires : goal.dot3-requires
unfolding reach_of corners_of
dot3-requires c = tt

pub abs-requires : goal.abs-requires
unfolding reach_of corners_of
abs-requires c = tt

pub max-a-requires : goal.max-a-requires
unfolding reach_of corners_of
max-a-requires c = tt

pub dot3-requires-2 : goal.dot3-requires-2
unfolding reach_of corners_of
dot3-requires-2 c = tt

pub abs-requires-2 : goal.abs-requires-2
unfolding reach_of corners_of
abs-requires-2 c = tt

pub max-b-requires : goal.max-b-requires
unfolding reach_of corners_of
max-b-requires c = tt

pub dot3-requires-3 : goal.dot3-requires-3
unfolding reach_of corners_of
dot3-requires-3 c = tt

pub abs-requires-3 : goal.abs-requires-3
unfolding reach_of corners_of
abs-requires-3 c = tt

pub max-requires : goal.max-requires
unfolding reach_of corners_of
max-requires c = tt

pub returns : goal.returns
unfolding reach_of corners_of
returns c = rw (
  ← c.dot3.ensures,
  ← c.abs.ensures,
  ← c.max-a.ensures,
  ← c.dot3-2.ensures,
  ← c.abs-2.ensures,
  ← c.max-b.ensures,
  ← c.dot3-3.ensures,
  ← c.abs-3.ensures,
  ← c.max.ensures,
)
