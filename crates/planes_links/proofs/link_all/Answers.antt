-- `planes_links::link_all` meets its contract: the loop keeps `Added` of what the first patches are linked to.
use mathlib.Core.Path.{refl, ◌∙◌}
use native.Mathlib.Omega.{arith}
use Rattle.planes_links.proofs.Linking.{all_none, all_more, all_done}
use Rattle.planes_links.proofs.link_all.Goals as goal

pub loop-patch-init : goal.loop-patch-init
loop-patch-init c =
    (omega arith, omega arith, refl, all_none c.args.row.now c.args.words.now c.args.from)

pub link_from-k-requires : goal.link_from-k-requires
link_from-k-requires c = record {
  p_lt_most_triangles = omega arith;
  row_in_bounds = omega (arith, c.loop-patch.invariant.2);
}

pub loop-patch-preserved : goal.loop-patch-preserved
loop-patch-preserved c = (
  omega arith,
  omega (arith, c.link_from-k.ensures.upper_bound),
  c.link_from-k.auto.words ∙ c.loop-patch.invariant.2,
  all_more c.args.row.now c.args.words.now c.args.from c.loop-patch.words c.link_from-k.new.words c.loop-patch.k c.link_from-k.result c.loop-patch.patch-index c.loop-patch-test.true
      c.loop-patch.invariant.3 c.link_from-k.ensures.by_index,
)

pub shape_of-words : goal.shape_of-words
shape_of-words c = c.loop-patch.invariant.2

pub returns : goal.returns
returns c = record {
  upper_bound = omega arith;
  by_index = all_done c.args.row.now c.args.words.now c.args.from c.loop-patch.words c.loop-patch.k c.loop-patch.patch-index c.loop-patch-test.false c.loop-patch.invariant.3;
}
