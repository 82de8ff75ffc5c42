-- `planes_links::patch_words` meets its contract: the loop keeps `Told`.
use mathlib.Core.Path.{◌≡◌, refl, ◌∙◌}
use native.Mathlib.Omega.{arith}
use Rattle.planes_links.proofs.Pushing.{told_none, patch_test, patch_skip, patch_more}
use Rattle.planes_links.proofs.patch_words.Goals as goal

pub loop-i-init : goal.loop-i-init
loop-i-init c =
    (omega arith, omega arith, refl, told_none (patch_test c.args.of.now c.args.np) c.args.words.now)

pub loop-i-preserved-then-p-np : goal.loop-i-preserved-then-p-np
loop-i-preserved-then-p-np c =
    (omega arith, omega arith, c.loop-i.invariant.2, patch_skip c.args.of.now c.args.np c.loop-i.words c.loop-i.k c.loop-i.i c.loop-i.invariant.3 c.if-p-np.true)

pub push-k-requires : goal.push-k-requires
push-k-requires c = record {
  k_in_bounds = omega (arith, c.loop-i.invariant.2);
  p_lt_most_rows = omega (arith, c.if-p-np.false);
  q_lt_most_triangles = omega arith;
}

pub loop-i-preserved : goal.loop-i-preserved
loop-i-preserved c =
    (omega arith, omega (arith, c.push-k.ensures.value), c.push-k.auto.words ∙ c.loop-i.invariant.2, patch_more c.args.of.now c.args.np c.loop-i.words c.loop-i.k c.loop-i.i c.loop-i.invariant.3 c.push-k.new.words c.push-k.result c.if-p-np.false (omega arith) c.push-k.ensures.result_after)

pub shape_of-words : goal.shape_of-words
shape_of-words c = c.loop-i.invariant.2

pub returns : goal.returns
returns c =
    let e : c.loop-i.i ≡ c.args.m = omega arith in record {
      upper_bound = omega arith;
      by_index = rw e at c.loop-i.invariant.3;
    }
