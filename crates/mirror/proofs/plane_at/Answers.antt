-- `mirror::plane_at` meets its contract: what its calls promise, and its tests.
use Rattle.mirror.specs.Rows.{row_of}
use Rattle.mirror.proofs.plane_at.Goals as goal

pub returns : goal.returns
unfolding row_of
returns c = rw (
  ← c.vec_in.ensures,
  ← c.vec_in-2.ensures,
  ← c.vec_in-3.ensures,
)
