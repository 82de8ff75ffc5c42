-- `scene::counts` meets its contract: by its two tests.
use borrow.Author.Tests.{lt-ltb, le-ltb}
use Rattle.scene.specs.Limits.{counts_of}
use Rattle.scene.proofs.counts.Goals as goal

pub returns-then-planes-gt-MOST_PLANES : goal.returns-then-planes-gt-MOST_PLANES
unfolding counts_of
returns-then-planes-gt-MOST_PLANES c = rw (lt-ltb _ _ c.if-planes-gt-MOST_PLANES.true)

pub returns-then-c-gt-MOST_CANDIDATES : goal.returns-then-c-gt-MOST_CANDIDATES
unfolding counts_of
returns-then-c-gt-MOST_CANDIDATES c = rw (le-ltb _ _ c.if-planes-gt-MOST_PLANES.false, lt-ltb _ _ c.if-c-gt-MOST_CANDIDATES.true)

pub returns : goal.returns
unfolding counts_of
returns c = rw (le-ltb _ _ c.if-planes-gt-MOST_PLANES.false, le-ltb _ _ c.if-c-gt-MOST_CANDIDATES.false)
