-- `geometry::solve` meets its contract: by the contracts of the products, then its two tests, then the contract of `within`.
use Rattle.geometry.specs.Intersect.{solve_of}
use Rattle.geometry.proofs.solve.Goals as goal

pub returns-then-outside : goal.returns-then-outside
unfolding solve_of
returns-then-outside c = rw (← c.dot3.ensures, ← c.outside.ensures, c.if-outside.true)

pub returns-then-outside-2 : goal.returns-then-outside-2
unfolding solve_of
returns-then-outside-2 c = rw (
  ← c.dot3.ensures,
  ← c.outside.ensures,
  c.if-outside.false,
  ← c.cross3-q.ensures,
  ← c.dot3-2.ensures,
  ← c.outside-2.ensures,
  c.if-outside-2.true,
)

pub returns : goal.returns
unfolding solve_of
returns c = rw (
  ← c.dot3.ensures,
  ← c.outside.ensures,
  c.if-outside.false,
  ← c.cross3-q.ensures,
  ← c.dot3-2.ensures,
  ← c.outside-2.ensures,
  c.if-outside-2.false,
  ← c.dot3-3.ensures,
  ← c.within.ensures,
)
