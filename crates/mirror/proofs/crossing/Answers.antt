-- `mirror::crossing` meets its contract: what its calls promise, and its tests.
use Rattle.mirror.specs.Mirror.{crossing_of}
use Rattle.mirror.proofs.crossing.Goals as goal

pub returns-then-abs : goal.returns-then-abs
unfolding crossing_of
returns-then-abs c is es = rw (
  ← c.signed_distance-da.ensures is es,
  ← c.signed_distance-db.ensures is es,
  c.if-da-db.true,
  ← c.abs.ensures,
  c.if-abs.true,
)

pub returns-then-abs-2 : goal.returns-then-abs-2
unfolding crossing_of
returns-then-abs-2 c is es = rw (
  ← c.signed_distance-da.ensures is es,
  ← c.signed_distance-db.ensures is es,
  c.if-da-db.true,
  ← c.abs.ensures,
  c.if-abs.false,
  ← c.abs-then-da-db.ensures,
  c.if-abs-2.true,
)

pub returns-then-da-db : goal.returns-then-da-db
unfolding crossing_of
returns-then-da-db c is es = rw (
  ← c.signed_distance-da.ensures is es,
  ← c.signed_distance-db.ensures is es,
  c.if-da-db.true,
  ← c.abs.ensures,
  c.if-abs.false,
  ← c.abs-then-da-db.ensures,
  c.if-abs-2.false,
  ← c.sub3.ensures,
  ← c.along.ensures,
)

pub returns : goal.returns
unfolding crossing_of
returns c is es = rw (← c.signed_distance-da.ensures is es, ← c.signed_distance-db.ensures is es, c.if-da-db.false)
