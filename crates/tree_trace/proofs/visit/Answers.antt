-- `tree_trace::visit` meets its contract: by the test of the determinant, the crossing and the two tests of its distance.
use mathlib.Core.Logic.{⊎_elim}
use borrow.Author.Tests.{eq-eqb, ne_eqb}
use Rattle.geometry.specs.Intersect.{crossing_of}
use Rattle.tree_trace.specs.Leaf.{visit_edges_of}
use Rattle.tree_trace.proofs.visit.Goals as goal

pub returns-then-parallel : goal.returns-then-parallel
unfolding visit_edges_of crossing_of
returns-then-parallel c = rw (← c.cross3-h.ensures, ← c.dot3-det.ensures, ← c.parallel.ensures, c.if-parallel.true)

pub returns-in_default : goal.returns-in_default
unfolding visit_edges_of crossing_of
returns-in_default c =
    rw (
      ← c.cross3-h.ensures,
      ← c.dot3-det.ensures,
      ← c.parallel.ensures,
      c.if-parallel.false,
      ← c.sub3.ensures,
      ← c.solve.ensures,
      c.in_default.is,
    )

pub returns-then-t-best : goal.returns-then-t-best
unfolding visit_edges_of crossing_of
returns-then-t-best c =
    rw (
      ← c.cross3-h.ensures,
      ← c.dot3-det.ensures,
      ← c.parallel.ensures,
      c.if-parallel.false,
      ← c.sub3.ensures,
      ← c.solve.ensures,
      c.in-Some.is,
    ) (⊎_elim (λ nearer. rw nearer) (λ first. rw (first.0, eq-eqb _ _ first.1)) c.then-t-best.either)

pub returns : goal.returns
unfolding visit_edges_of crossing_of
returns c =
    rw (
      ← c.cross3-h.ensures,
      ← c.dot3-det.ensures,
      ← c.parallel.ensures,
      c.if-parallel.false,
      ← c.sub3.ensures,
      ← c.solve.ensures,
      c.in-Some.is,
      c.if-t-best.false,
      ne_eqb _ _ c.if-best-eq0.false,
    )
