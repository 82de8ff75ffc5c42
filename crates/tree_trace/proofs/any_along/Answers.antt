-- `tree_trace::any_along` meets its contract: axis by axis.
use Rattle.tree_trace.specs.Slopes.{any_along_of}
use Rattle.tree_trace.proofs.any_along.Goals as goal

pub returns-then-is_along : goal.returns-then-is_along
unfolding any_along_of
returns-then-is_along c = rw (← c.is_along.ensures, c.if-is_along.true)

pub returns-then-is_along-2 : goal.returns-then-is_along-2
unfolding any_along_of
returns-then-is_along-2 c = rw (← c.is_along.ensures, c.if-is_along.false, ← c.is_along-2.ensures, c.if-is_along-2.true)

pub returns : goal.returns
unfolding any_along_of
returns c = rw (
  ← c.is_along.ensures,
  c.if-is_along.false,
  ← c.is_along-2.ensures,
  c.if-is_along-2.false,
  ← c.is_along-3.ensures,
)
