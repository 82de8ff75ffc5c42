-- `segments::clamped` meets its contract: what its calls promise, and its tests.
use Rattle.segments.specs.Materials.{clamped_of}
use Rattle.segments.proofs.clamped.Goals as goal

pub returns : goal.returns
unfolding clamped_of
returns c = rw (
  ← c.clamp.ensures,
  ← c.clamp-2.ensures,
  ← c.clamp-3.ensures,
  ← c.clamp-4.ensures,
  ← c.clamp-5.ensures,
  ← c.clamp-6.ensures,
  ← c.clamp-7.ensures,
  ← c.clamp-8.ensures,
)
