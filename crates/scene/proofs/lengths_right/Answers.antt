-- `scene::lengths_right` meets its contract: part by part, by the contracts of the five tests.
use Rattle.scene.specs.Refusals.{lengths_right_of}
use Rattle.scene.proofs.lengths_right.Goals as goal

pub meshes_whole-requires : goal.meshes_whole-requires
unfolding lengths_right_of
meshes_whole-requires c = tt

pub transforms_right-requires : goal.transforms_right-requires
unfolding lengths_right_of
transforms_right-requires c = tt

pub positions_right-requires : goal.positions_right-requires
unfolding lengths_right_of
positions_right-requires c = tt

pub indices_right-requires : goal.indices_right-requires
unfolding lengths_right_of
indices_right-requires c = tt

pub materials_right-requires : goal.materials_right-requires
unfolding lengths_right_of
materials_right-requires c = tt

pub returns-then-indices_right : goal.returns-then-indices_right
unfolding lengths_right_of
returns-then-indices_right c = rw (
  ← c.meshes_whole.ensures,
  c.if-meshes_whole.true,
  ← c.transforms_right.ensures,
  c.if-transforms_right.true,
  ← c.positions_right.ensures,
  c.if-positions_right.true,
  ← c.indices_right.ensures,
  c.if-indices_right.true,
  ← c.materials_right.ensures,
)

pub returns-else-indices_right : goal.returns-else-indices_right
unfolding lengths_right_of
returns-else-indices_right c = rw (
  ← c.meshes_whole.ensures,
  c.if-meshes_whole.true,
  ← c.transforms_right.ensures,
  c.if-transforms_right.true,
  ← c.positions_right.ensures,
  c.if-positions_right.true,
  ← c.indices_right.ensures,
  c.if-indices_right.false,
)

pub returns-else-positions_right : goal.returns-else-positions_right
unfolding lengths_right_of
returns-else-positions_right c = rw (
  ← c.meshes_whole.ensures,
  c.if-meshes_whole.true,
  ← c.transforms_right.ensures,
  c.if-transforms_right.true,
  ← c.positions_right.ensures,
  c.if-positions_right.false,
)

pub returns-else-transforms_right : goal.returns-else-transforms_right
unfolding lengths_right_of
returns-else-transforms_right c = rw (
  ← c.meshes_whole.ensures,
  c.if-meshes_whole.true,
  ← c.transforms_right.ensures,
  c.if-transforms_right.false,
)

pub returns-else-meshes_whole : goal.returns-else-meshes_whole
unfolding lengths_right_of
returns-else-meshes_whole c = rw (← c.meshes_whole.ensures, c.if-meshes_whole.false)
