-- `geometry::intersect_edges` meets its contract: by its test of the determinant, a miss or the contract of `solve`.
use Rattle.geometry.specs.Intersect.{crossing_of}
use Rattle.geometry.proofs.intersect_edges.Goals as goal

pub returns-then-parallel : goal.returns-then-parallel
unfolding crossing_of
returns-then-parallel c = rw (
  ← c.cross3-h.ensures,
  ← c.dot3-det.ensures,
  ← c.parallel.ensures,
  c.if-parallel.true,
)

pub returns : goal.returns
unfolding crossing_of
returns c = rw (
  ← c.cross3-h.ensures,
  ← c.dot3-det.ensures,
  ← c.parallel.ensures,
  c.if-parallel.false,
  ← c.sub3.ensures,
  ← c.solve.ensures,
)
