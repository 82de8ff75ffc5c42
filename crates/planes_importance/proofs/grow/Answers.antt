-- `planes_importance::grow` meets its contract: each coordinate by the contract of `min` or `max`.
use Rattle.geometry.specs.Aabb.{grow_of, low_of, high_of}
use Rattle.planes_importance.proofs.grow.Goals as goal

pub min-requires : goal.min-requires
unfolding grow_of low_of high_of
min-requires c = tt

pub min-requires-2 : goal.min-requires-2
unfolding grow_of low_of high_of
min-requires-2 c = tt

pub min-requires-3 : goal.min-requires-3
unfolding grow_of low_of high_of
min-requires-3 c = tt

pub max-requires : goal.max-requires
unfolding grow_of low_of high_of
max-requires c = tt

pub max-requires-2 : goal.max-requires-2
unfolding grow_of low_of high_of
max-requires-2 c = tt

pub max-requires-3 : goal.max-requires-3
unfolding grow_of low_of high_of
max-requires-3 c = tt

pub returns : goal.returns
unfolding grow_of low_of high_of
returns c = rw (
  ← c.min.ensures,
  ← c.min-2.ensures,
  ← c.min-3.ensures,
  ← c.max.ensures,
  ← c.max-2.ensures,
  ← c.max-3.ensures,
)
