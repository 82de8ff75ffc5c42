-- `tree_trace::slab` meets its contract: the two ends of the span, axis by axis, and the test of them.
use Rattle.tree_trace.specs.Slopes.{cut_of}
use Rattle.tree_trace.proofs.slab.Goals as goal

pub returns-then-to-from : goal.returns-then-to-from
unfolding cut_of
returns-then-to-from c =
    rw (
      ← c.near-x.ensures,
      ← c.near-y.ensures,
      ← c.near-from.ensures,
      ← c.far-p.ensures,
      ← c.far-q.ensures,
      ← c.far-to.ensures,
      c.if-to-from.true,
    )

pub returns : goal.returns
unfolding cut_of
returns c =
    rw (
      ← c.near-x.ensures,
      ← c.near-y.ensures,
      ← c.near-from.ensures,
      ← c.far-p.ensures,
      ← c.far-q.ensures,
      ← c.far-to.ensures,
      c.if-to-from.false,
    )
