-- `cost::takes` meets its contract: test by test.
use mathlib.Core.Path.{◌≡◌}
use borrow.Author.Tests.{le-leb, lt-leb}
use Rattle.scene.specs.Limits.{most_crossings}
use Rattle.cost.specs.Cost.{within, takes}
use Rattle.cost.proofs.takes.Goals as goal

pub returns-then-first-planes : goal.returns-then-first-planes
unfolding takes
returns-then-first-planes c =
    let limited : c.within.result ≡ within c.args.crossing_limit most_crossings = c.within.ensures in
    rw (
      ← limited,
      c.if-within.true,
      ← c.within-then-within.ensures,
      c.if-within-2.true,
      ← c.within-then-within-2.ensures,
      c.if-within-3.true,
      le-leb _ _ c.if-first-planes.true,
    )

pub returns-else-first-planes : goal.returns-else-first-planes
unfolding takes
returns-else-first-planes c =
    let limited : c.within.result ≡ within c.args.crossing_limit most_crossings = c.within.ensures in
    rw (
      ← limited,
      c.if-within.true,
      ← c.within-then-within.ensures,
      c.if-within-2.true,
      ← c.within-then-within-2.ensures,
      c.if-within-3.true,
      lt-leb _ _ c.if-first-planes.false,
    )

pub returns-else-within-3 : goal.returns-else-within-3
unfolding takes
returns-else-within-3 c =
    let limited : c.within.result ≡ within c.args.crossing_limit most_crossings = c.within.ensures in
    rw (
      ← limited,
      c.if-within.true,
      ← c.within-then-within.ensures,
      c.if-within-2.true,
      ← c.within-then-within-2.ensures,
      c.if-within-3.false,
    )

pub returns-else-within-2 : goal.returns-else-within-2
unfolding takes
returns-else-within-2 c =
    let limited : c.within.result ≡ within c.args.crossing_limit most_crossings = c.within.ensures in
    rw (
      ← limited,
      c.if-within.true,
      ← c.within-then-within.ensures,
      c.if-within-2.false,
    )

pub returns-else-within : goal.returns-else-within
unfolding takes
returns-else-within c =
    let limited : c.within.result ≡ within c.args.crossing_limit most_crossings = c.within.ensures in
    rw (
      ← limited,
      c.if-within.false,
    )

pub within-requires : goal.within-requires
within-requires c = tt

pub within-requires-then-within : goal.within-requires-then-within
within-requires-then-within c = tt

pub within-requires-then-within-2 : goal.within-requires-then-within-2
within-requires-then-within-2 c = tt
