-- `tree_split::sort_by_axis` meets its contract: by the axis' number; every number from 2 on is the third axis.
use Rattle.tree_split.specs.Split.{centroid_at_of}
use Rattle.tree_split.proofs.Laws as law
use Rattle.tree_split.proofs.sort_by_axis.Goals as goal

pub sort_by_centroid-requires : goal.sort_by_centroid-requires
sort_by_centroid-requires c = let pre = c.requires in let k = pre.keyed in record {
  below = pre.below;
  part_in_bounds = pre.part_in_bounds;
  n_in_bounds = (k.xs, rw c.if-axis-eq0.true k.xo);
}

pub shape_of-part-then-axis-eq0 : goal.shape_of-part-then-axis-eq0
shape_of-part-then-axis-eq0 c = c.sort_by_centroid.auto.part

pub shape_of-words-then-axis-eq0 : goal.shape_of-words-then-axis-eq0
shape_of-words-then-axis-eq0 c = c.sort_by_centroid.auto.words

pub shape_of-scratch-then-axis-eq0 : goal.shape_of-scratch-then-axis-eq0
shape_of-scratch-then-axis-eq0 c = c.sort_by_centroid.auto.scratch

pub returns-then-axis-eq0 : goal.returns-then-axis-eq0
returns-then-axis-eq0 c = c.sort_by_centroid.ensures

pub sort_by_centroid-requires-then-axis-eq1 : goal.sort_by_centroid-requires-then-axis-eq1
sort_by_centroid-requires-then-axis-eq1 c = let pre = c.requires in let k = pre.keyed in record {
  below = pre.below;
  part_in_bounds = pre.part_in_bounds;
  n_in_bounds = (k.ys, rw c.if-axis-eq1.true k.yo);
}

pub shape_of-part-then-axis-eq1 : goal.shape_of-part-then-axis-eq1
shape_of-part-then-axis-eq1 c = c.sort_by_centroid-then-axis-eq1.auto.part

pub shape_of-words-then-axis-eq1 : goal.shape_of-words-then-axis-eq1
shape_of-words-then-axis-eq1 c = c.sort_by_centroid-then-axis-eq1.auto.words

pub shape_of-scratch-then-axis-eq1 : goal.shape_of-scratch-then-axis-eq1
shape_of-scratch-then-axis-eq1 c = c.sort_by_centroid-then-axis-eq1.auto.scratch

pub returns-then-axis-eq1 : goal.returns-then-axis-eq1
returns-then-axis-eq1 c = c.sort_by_centroid-then-axis-eq1.ensures

pub sort_by_centroid-requires-2 : goal.sort_by_centroid-requires-2
sort_by_centroid-requires-2 c =
    let a = c.args in let pre = c.requires in let k = pre.keyed in record {
      below = pre.below;
      part_in_bounds = pre.part_in_bounds;
      n_in_bounds = (k.zs, law.order_other a.n a.kz.now (centroid_at_of a.extents.now) a.axis c.if-axis-eq0.false c.if-axis-eq1.false k.zo);
    }

pub shape_of-part : goal.shape_of-part
shape_of-part c = c.sort_by_centroid-2.auto.part

pub shape_of-words : goal.shape_of-words
shape_of-words c = c.sort_by_centroid-2.auto.words

pub shape_of-scratch : goal.shape_of-scratch
shape_of-scratch c = c.sort_by_centroid-2.auto.scratch

pub returns : goal.returns
returns c = c.sort_by_centroid-2.ensures
