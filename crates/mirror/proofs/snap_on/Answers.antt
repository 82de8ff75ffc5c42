-- `mirror::snap_on` meets its contract: what its calls promise, and its tests.
use Rattle.mirror.specs.Locate.{snap_edges_of}
use Rattle.mirror.proofs.snap_on.Goals as goal

pub returns-in_default : goal.returns-in_default
unfolding snap_edges_of
returns-in_default c = rw (← c.intersect_edges.ensures, c.in_default.is)

pub returns-in_default-best : goal.returns-in_default-best
unfolding snap_edges_of
returns-in_default-best c = rw (
  ← c.intersect_edges.ensures,
  c.in-Some.is,
  c.in_default-best.is,
)

pub returns-then-abs : goal.returns-then-abs
unfolding snap_edges_of
returns-then-abs c = rw (
  ← c.intersect_edges.ensures,
  c.in-Some.is,
  c.in-Some-best.is,
  ← c.abs.ensures,
  ← c.abs-2.ensures,
  c.if-abs.true,
)

pub returns : goal.returns
unfolding snap_edges_of
returns c = rw (
  ← c.intersect_edges.ensures,
  c.in-Some.is,
  c.in-Some-best.is,
  ← c.abs.ensures,
  ← c.abs-2.ensures,
  c.if-abs.false,
)
