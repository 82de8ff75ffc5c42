-- `planes_importance::grow_by` meets its contract: by that of `grow` at each of the three corners.
use Rattle.planes_patches.specs.Triangles.{corners_of}
use Rattle.planes_importance.specs.Importance.{grown_by_of}
use Rattle.planes_importance.proofs.grow_by.Goals as goal

pub grow-requires : goal.grow-requires
unfolding grown_by_of corners_of
grow-requires c = tt

pub grow-requires-2 : goal.grow-requires-2
unfolding grown_by_of corners_of
grow-requires-2 c = tt

pub grow-requires-3 : goal.grow-requires-3
unfolding grown_by_of corners_of
grow-requires-3 c = tt

pub returns : goal.returns
unfolding grown_by_of corners_of
returns c = rw (← c.grow.ensures, ← c.grow-2.ensures, ← c.grow-3.ensures)
