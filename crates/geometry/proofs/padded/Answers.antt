-- `geometry::padded` meets its contract: each axis by the contract of `pad`.
use Rattle.geometry.specs.Slab.{padded_of}
use Rattle.geometry.proofs.padded.Goals as goal

pub returns : goal.returns
unfolding padded_of
returns c = rw (
  ← c.pad-x.ensures,
  ← c.pad-y.ensures,
  ← c.pad-z.ensures,
)
