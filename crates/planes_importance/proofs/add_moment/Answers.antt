-- `planes_importance::add_moment` meets its contract: by those of `triangle_area` and `centroid`.
use Rattle.vector.specs.Vector.{add3_of}
use Rattle.planes_importance.specs.Importance.{moment_of}
use Rattle.planes_importance.proofs.add_moment.Goals as goal

pub triangle_area-a-requires : goal.triangle_area-a-requires
unfolding moment_of add3_of
triangle_area-a-requires c = tt

pub centroid-c-requires : goal.centroid-c-requires
unfolding moment_of add3_of
centroid-c-requires c = tt

pub returns : goal.returns
unfolding moment_of add3_of
returns c = rw (
  ← c.triangle_area-a.ensures,
  ← c.centroid-c.ensures,
)
