-- `geometry::contains` meets its contract: by its test of the divisor, false or the contract of `inside`.
use Rattle.geometry.specs.Contains.{contains_of}
use Rattle.geometry.proofs.contains.Goals as goal

pub returns-then-abs : goal.returns-then-abs
unfolding contains_of
returns-then-abs c = rw (
  ← c.sub3-v2.ensures,
  ← c.dot3-d20.ensures,
  ← c.dot3-d21.ensures,
  ← c.abs.ensures,
  c.if-abs.true,
  ← c.inside.ensures,
)

pub returns : goal.returns
unfolding contains_of
returns c = rw (
  ← c.sub3-v2.ensures,
  ← c.dot3-d20.ensures,
  ← c.dot3-d21.ensures,
  ← c.abs.ensures,
  c.if-abs.false,
)
