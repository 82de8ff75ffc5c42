-- `scene::check` meets its contract: refusal by refusal, in the order of their numbers.
use Rattle.std.proofs.Common.{◌≡◌, ◌≤◌, ◌<◌, arith}
use borrow.Author.Tests.{lt-ltb, le-ltb}
use Rattle.scene.specs.Scene.{headers, triple_sum}
use Rattle.scene.specs.Refusals.{check_of, first_of_five, refusal1, refusal2, refusal3, refusal4, refusal5}
use Rattle.scene.proofs.check.Goals as goal

pub returns-then-not-within_limits : goal.returns-then-not-within_limits
unfolding check_of first_of_five refusal1
returns-then-not-within_limits c = rw (← c.within_limits.ensures, c.if-not-within_limits.true)

pub returns-then-not-lengths_right : goal.returns-then-not-lengths_right
unfolding check_of first_of_five refusal1 refusal2
returns-then-not-lengths_right c = rw (← c.within_limits.ensures, c.if-not-within_limits.false, ← c.lengths_right.ensures, c.if-not-lengths_right.true)

pub returns-then-unknown_handle : goal.returns-then-unknown_handle
unfolding check_of first_of_five refusal1 refusal2 refusal3
returns-then-unknown_handle c = rw (
  ← c.within_limits.ensures,
  c.if-not-within_limits.false,
  ← c.lengths_right.ensures,
  c.if-not-lengths_right.false,
  ← c.unknown_handle.ensures,
  c.if-unknown_handle.true,
)

pub returns-then-t-gt-MOST_TRIPLES : goal.returns-then-t-gt-MOST_TRIPLES
unfolding check_of first_of_five refusal1 refusal2 refusal3 refusal4
returns-then-t-gt-MOST_TRIPLES c = let l = c.args.meshes.now in
    let many : 4096 < triple_sum (headers l) = omega arith in
    rw (
      ← c.within_limits.ensures,
      c.if-not-within_limits.false,
      ← c.lengths_right.ensures,
      c.if-not-lengths_right.false,
      ← c.unknown_handle.ensures,
      c.if-unknown_handle.false,
      lt-ltb _ _ many,
    )

pub returns-then-areas_short : goal.returns-then-areas_short
unfolding check_of first_of_five refusal1 refusal2 refusal3 refusal4 refusal5
returns-then-areas_short c = let l = c.args.meshes.now in
    let few : triple_sum (headers l) ≤ 4096 = omega (arith, c.whole_triples-t.ensures, c.if-t-gt-MOST_TRIPLES.false) in
    let same : triple_sum (headers l) ≡ c.whole_triples-t.result = omega (arith, c.whole_triples-t.ensures, c.if-t-gt-MOST_TRIPLES.false) in
    rw (
      ← c.within_limits.ensures,
      c.if-not-within_limits.false,
      ← c.lengths_right.ensures,
      c.if-not-lengths_right.false,
      ← c.unknown_handle.ensures,
      c.if-unknown_handle.false,
      le-ltb _ _ few,
      same,
      ← c.areas_short.ensures,
      c.if-areas_short.true,
    )

pub returns : goal.returns
unfolding check_of first_of_five refusal1 refusal2 refusal3 refusal4 refusal5
returns c = let l = c.args.meshes.now in
    let few : triple_sum (headers l) ≤ 4096 = omega (arith, c.whole_triples-t.ensures, c.if-t-gt-MOST_TRIPLES.false) in
    let same : triple_sum (headers l) ≡ c.whole_triples-t.result = omega (arith, c.whole_triples-t.ensures, c.if-t-gt-MOST_TRIPLES.false) in
    rw (
      ← c.within_limits.ensures,
      c.if-not-within_limits.false,
      ← c.lengths_right.ensures,
      c.if-not-lengths_right.false,
      ← c.unknown_handle.ensures,
      c.if-unknown_handle.false,
      le-ltb _ _ few,
      same,
      ← c.areas_short.ensures,
      c.if-areas_short.false,
    )
