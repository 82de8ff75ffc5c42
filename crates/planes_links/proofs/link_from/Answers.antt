-- `planes_links::link_from` meets its contract: the loop keeps `Added` of what the patches so far make.
use mathlib.Core.Path.{refl, ◌∙◌}
use native.Mathlib.Omega.{arith}
use Rattle.planes_links.proofs.Linking.{from_none, from_skip, from_more, from_all}
use Rattle.planes_links.proofs.link_from.Goals as goal

pub loop-patch-init : goal.loop-patch-init
loop-patch-init c =
    (omega arith, omega arith, refl, from_none c.args.p c.args.row.now c.args.words.now c.args.from)

pub loop-patch-preserved-then-q-p : goal.loop-patch-preserved-then-q-p
loop-patch-preserved-then-q-p c =
    (omega arith, omega arith, c.loop-patch.invariant.2, from_skip c.args.p c.args.row.now c.args.words.now c.args.from c.loop-patch.words c.loop-patch.k c.loop-patch.patch-index c.loop-patch.invariant.3 c.loop-patch-test.true c.if-q-p.true)

pub push-k-requires : goal.push-k-requires
push-k-requires c = record {
  k_in_bounds = omega (arith, c.loop-patch.invariant.2);
  p_lt_most_rows = omega arith;
  q_lt_most_triangles = omega arith;
}

pub loop-patch-preserved : goal.loop-patch-preserved
loop-patch-preserved c = (
  omega arith,
  omega (arith, c.push-k.ensures.value),
  c.push-k.auto.words ∙ c.loop-patch.invariant.2,
  from_more c.args.p c.args.row.now c.args.words.now c.args.from c.loop-patch.words c.loop-patch.k c.loop-patch.patch-index c.loop-patch.invariant.3 c.loop-patch-test.true c.if-q-p.false
      c.push-k.new.words c.push-k.result c.push-k.ensures.result_after,
)

pub shape_of-words : goal.shape_of-words
shape_of-words c = c.loop-patch.invariant.2

pub returns : goal.returns
returns c = record {
  upper_bound = omega arith;
  by_index = from_all c.args.p c.args.row.now c.args.words.now c.args.from c.loop-patch.words c.loop-patch.k c.loop-patch.patch-index c.loop-patch-test.false c.loop-patch.invariant.3;
}
