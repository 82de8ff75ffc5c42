-- `planes_fit::add_patch` meets its contract: by those of `side` and `union`; the sums are those of the definition.
use Rattle.planes_fit.specs.Rows.{summed_of}
use Rattle.planes_fit.specs.Fit.{weighted_of}
use Rattle.vector.specs.Vector.{add3_of}
use Rattle.planes_fit.proofs.add_patch.Goals as goal

pub side-requires : goal.side-requires
unfolding summed_of weighted_of add3_of
side-requires c = tt

pub union-aabb-requires : goal.union-aabb-requires
unfolding summed_of weighted_of add3_of
union-aabb-requires c = tt

pub returns : goal.returns
unfolding summed_of weighted_of add3_of
returns c = rw (
  ← c.side.ensures,
  ← c.union-aabb.ensures,
)
