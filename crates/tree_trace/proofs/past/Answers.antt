-- `tree_trace::past` meets its contract: axis by axis.
use Rattle.tree_trace.specs.Slopes.{past_of}
use Rattle.tree_trace.proofs.past.Goals as goal

pub returns-then-beside : goal.returns-then-beside
unfolding past_of
returns-then-beside c = rw (← c.beside.ensures, c.if-beside.true)

pub returns-then-beside-2 : goal.returns-then-beside-2
unfolding past_of
returns-then-beside-2 c = rw (← c.beside.ensures, c.if-beside.false, ← c.beside-2.ensures, c.if-beside-2.true)

pub returns-then-beside-3 : goal.returns-then-beside-3
unfolding past_of
returns-then-beside-3 c = rw (
  ← c.beside.ensures,
  c.if-beside.false,
  ← c.beside-2.ensures,
  c.if-beside-2.false,
  ← c.beside-3.ensures,
  c.if-beside-3.true,
)

pub returns : goal.returns
unfolding past_of
returns c = rw (
  ← c.beside.ensures,
  c.if-beside.false,
  ← c.beside-2.ensures,
  c.if-beside-2.false,
  ← c.beside-3.ensures,
  c.if-beside-3.false,
)
