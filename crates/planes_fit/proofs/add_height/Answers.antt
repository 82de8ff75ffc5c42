-- `planes_fit::add_height` meets its contract: by those of `triangle_area`, `centroid` and `dot3`.
use Rattle.planes_fit.specs.Fit.{heights_of}
use Rattle.planes_fit.proofs.add_height.Goals as goal

pub triangle_area-a-requires : goal.triangle_area-a-requires
unfolding heights_of
triangle_area-a-requires c = tt

pub centroid-requires : goal.centroid-requires
unfolding heights_of
centroid-requires c = tt

pub dot3-h-requires : goal.dot3-h-requires
unfolding heights_of
dot3-h-requires c = tt

pub returns : goal.returns
unfolding heights_of
returns c = rw (
  ← c.triangle_area-a.ensures,
  ← c.centroid.ensures,
  ← c.dot3-h.ensures,
)
