-- `front::silent` meets its contract: test by test, by that of `finite_point`.
use Rattle.front.specs.Asked.{silent_of}
use Rattle.front.proofs.silent.Goals as goal

pub returns-then-separated : goal.returns-then-separated
unfolding silent_of
returns-then-separated c = rw c.if-separated.true

pub finite_point-requires : goal.finite_point-requires
unfolding silent_of
finite_point-requires c = tt

pub finite_point-requires-then-finite_point : goal.finite_point-requires-then-finite_point
unfolding silent_of
finite_point-requires-then-finite_point c = tt

pub returns-then-finite_point-2 : goal.returns-then-finite_point-2
unfolding silent_of
returns-then-finite_point-2 c = rw (
  c.if-separated.false,
  ← c.finite_point.ensures,
  c.if-finite_point.true,
  ← c.finite_point-then-finite_point.ensures,
  c.if-finite_point-2.true,
)

pub returns-else-finite_point-2 : goal.returns-else-finite_point-2
unfolding silent_of
returns-else-finite_point-2 c = rw (
  c.if-separated.false,
  ← c.finite_point.ensures,
  c.if-finite_point.true,
  ← c.finite_point-then-finite_point.ensures,
  c.if-finite_point-2.false,
)

pub returns-else-finite_point : goal.returns-else-finite_point
unfolding silent_of
returns-else-finite_point c = rw (c.if-separated.false, ← c.finite_point.ensures, c.if-finite_point.false)
