-- `planes_links::vertex_words` meets its contract: the loop keeps `Told`, three words a triangle.
use mathlib.Core.Path.{◌≡◌, refl, ◌∙◌}
use native.Mathlib.Omega.{arith}
use Rattle.planes_links.specs.Links.{has_corner}
use Rattle.planes_links.proofs.Pushing.{told_none, corner_skip, corner_more}
use Rattle.planes_links.proofs.vertex_words.Goals as goal

pub loop-i-init : goal.loop-i-init
loop-i-init c =
    (omega arith, omega arith, refl, told_none (has_corner c.args.numbers.now c.args.n c.args.of.now c.args.np) c.args.words.now)

pub loop-i-preserved-then-p-np : goal.loop-i-preserved-then-p-np
loop-i-preserved-then-p-np c =
    (omega arith, omega arith, c.loop-i.invariant.2, corner_skip c.args.numbers.now c.args.n c.args.of.now c.args.np c.loop-i.words c.loop-i.k c.loop-i.i c.loop-i.invariant.3 c.if-p-np.true)

pub push-k-requires : goal.push-k-requires
push-k-requires c = record {
  k_in_bounds = omega (arith, c.loop-i.invariant.2);
  p_lt_most_rows = c.requires.numbers.first c.loop-i.i c.loop-i-test.true;
  q_lt_most_triangles = omega (arith, c.if-p-np.false);
}

pub push-k-requires-in-loop-i : goal.push-k-requires-in-loop-i
push-k-requires-in-loop-i c = record {
  k_in_bounds = omega (arith, c.loop-i.invariant.2, c.push-k.auto.words, c.push-k.ensures.value);
  p_lt_most_rows = c.requires.numbers.second c.loop-i.i
      c.loop-i-test.true;
  q_lt_most_triangles = omega (arith, c.if-p-np.false);
}

pub push-k-requires-in-loop-i-2 : goal.push-k-requires-in-loop-i-2
push-k-requires-in-loop-i-2 c = record {
  k_in_bounds = omega (arith, c.loop-i.invariant.2, c.push-k.auto.words, c.push-k.ensures.value, c.push-k-in-loop-i.auto.words, c.push-k-in-loop-i.ensures.value);
  p_lt_most_rows = omega (arith, c.requires.numbers.third c.loop-i.i c.loop-i-test.true, c.requires.numbers.second c.loop-i.i c.loop-i-test.true);
  q_lt_most_triangles = omega
      (arith, c.if-p-np.false);
}

pub loop-i-preserved : goal.loop-i-preserved
loop-i-preserved c = (
  omega arith,
  omega (arith, c.push-k.ensures.value, c.push-k-in-loop-i.ensures.value, c.push-k-in-loop-i-2.ensures.value),
  c.push-k-in-loop-i-2.auto.words ∙ c.push-k-in-loop-i.auto.words ∙ c.push-k.auto.words ∙ c.loop-i.invariant.2,
  corner_more c.args.numbers.now c.args.n c.args.of.now c.args.np c.loop-i.words c.loop-i.k c.loop-i.i c.loop-i.invariant.3 c.push-k.new.words c.push-k-in-loop-i.new.words c.push-k-in-loop-i-2.new.words c.push-k.result c.push-k-in-loop-i.result
      c.push-k-in-loop-i-2.result c.if-p-np.false c.requires.np_le_most_triangles c.push-k.ensures.result_after c.push-k-in-loop-i.ensures.result_after c.push-k-in-loop-i-2.ensures.result_after,
)

pub shape_of-words : goal.shape_of-words
shape_of-words c = c.loop-i.invariant.2

pub returns : goal.returns
returns c =
    let e : c.loop-i.i ≡ c.args.m = omega arith in record {
      upper_bound = omega arith;
      by_index = rw e at c.loop-i.invariant.3;
    }
