-- `mirror::nearest` meets its contract: what its calls promise, and its tests.
use Rattle.mirror.specs.Border.{nearest_of}
use Rattle.mirror.proofs.nearest.Goals as goal

pub returns-then-len2 : goal.returns-then-len2
unfolding nearest_of
returns-then-len2 c = rw (
  ← c.dot3-len2.ensures,
  c.if-len2.true,
  ← c.sub3.ensures,
  ← c.dot3.ensures,
  ← c.clamp.ensures,
)

pub returns : goal.returns
unfolding nearest_of
returns c = rw (← c.dot3-len2.ensures, c.if-len2.false)
