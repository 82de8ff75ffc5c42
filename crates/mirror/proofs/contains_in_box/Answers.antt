-- `mirror::contains_in_box` meets its contract: what its calls promise, and its tests.
use Rattle.mirror.specs.Locate.{contains_in_box_of}
use Rattle.mirror.proofs.contains_in_box.Goals as goal

pub returns-then-within-2 : goal.returns-then-within-2
unfolding contains_in_box_of
returns-then-within-2 c is es = rw (
  ← c.within.ensures,
  c.if-within.true,
  ← c.within-then-within.ensures,
  c.if-within-2.true,
  ← c.within-then-within-2.ensures,
)

pub returns-else-within-2 : goal.returns-else-within-2
unfolding contains_in_box_of
returns-else-within-2 c is es = rw (← c.within.ensures, c.if-within.true, ← c.within-then-within.ensures, c.if-within-2.false)

pub returns-else-within : goal.returns-else-within
unfolding contains_in_box_of
returns-else-within c is es = rw (← c.within.ensures, c.if-within.false)
