-- `planes_links::compact` meets its contract: the loop keeps `Compacting` of the words' upper halves.
use mathlib.Core.Path.{refl, ◌∙◌}
use native.Mathlib.Omega.{arith}
use lib.ListN.{length-set}
use Rattle.planes_links.proofs.Compacting.{words_none, words_same, words_new, words_done}
use Rattle.planes_links.proofs.compact.Goals as goal

pub loop-word-init : goal.loop-word-init
loop-word-init c =
    (omega arith, omega arith, refl, words_none c.args.words.now c.args.sorted.now c.requires, (λ h. absurd (omega arith)))

pub loop-word-preserved-then-w-last : goal.loop-word-preserved-then-w-last
loop-word-preserved-then-w-last c =
    (omega arith, omega arith, c.loop-word.invariant.2, words_same c.args.words.now c.loop-word.sorted c.loop-word.last c.loop-word.k c.loop-word.word-index c.loop-word.invariant.3 c.loop-word-test.true c.if-w-last.true, (λ h. omega (arith, c.type_inv.words 0)))

pub overflow_cast-sorted : goal.overflow_cast-sorted
overflow_cast-sorted c = omega (arith, c.type_inv.words c.loop-word.word-index)

pub offset_bounds-sorted-k : goal.offset_bounds-sorted-k
offset_bounds-sorted-k c = omega (arith, c.loop-word.invariant.2, c.requires)

pub bounds-sorted-k : goal.bounds-sorted-k
bounds-sorted-k c = omega (arith, c.loop-word.invariant.2, c.requires)

pub loop-word-preserved : goal.loop-word-preserved
loop-word-preserved c =
    (omega arith, omega arith, length-set c.loop-word.sorted c.loop-word.k _ ∙ c.loop-word.invariant.2, words_new c.args.words.now c.loop-word.sorted c.loop-word.last c.loop-word.k c.loop-word.word-index c.loop-word.invariant.3 c.loop-word-test.true c.if-w-last.false, (λ h. omega (arith, c.type_inv.words 0)))

pub shape_of-sorted : goal.shape_of-sorted
shape_of-sorted c = c.loop-word.invariant.2

pub returns : goal.returns
returns c = let all = words_done c.args.words.now c.loop-word.sorted c.loop-word.last c.loop-word.k c.loop-word.word-index c.loop-word.invariant.3 c.loop-word-test.false (λ p. c.loop-word.invariant.4 (omega (arith, p, c.loop-word-test.false))) in record {
  upper_bound = all.0;
  sorted_after = all.1;
}
