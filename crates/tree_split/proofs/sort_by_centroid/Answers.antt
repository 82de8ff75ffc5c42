-- `tree_split::sort_by_centroid` meets its contract: keys in the order of the values sort as the values do (`sort_same`).
use mathlib.Core.Path.{◌∙◌}
use Rattle.order.specs.Sort.{key_of}
use Rattle.order.proofs.Laws.{below_sort, below_more}
use Rattle.vector.specs.Vector.{axis_of}
use Rattle.tree_split.specs.Split.{centroid_at_of}
use Rattle.tree_split.proofs.Laws as law
use Rattle.tree_split.proofs.sort_by_centroid.Goals as goal

pub sort_by_key-requires : goal.sort_by_key-requires
sort_by_key-requires c = let p = c.requires in record {
  index_in_bounds = p.part_in_bounds.0;
  index_in_bounds_2 = p.part_in_bounds.1;
  below = below_more _ _ _ p.n_in_bounds.0 p.below;
}

pub shape_of-part : goal.shape_of-part
shape_of-part c = c.sort_by_key.auto.index

pub shape_of-words : goal.shape_of-words
shape_of-words c = c.sort_by_key.auto.words

pub shape_of-scratch : goal.shape_of-scratch
shape_of-scratch c = c.sort_by_key.auto.scratch

pub returns : goal.returns
returns c =
    let a = c.args in
    let pre = c.requires in
    let e = c.sort_by_key.ensures.sorted in (
      e ∙ law.sort_same a.n a.keys.now (λ i. axis_of (centroid_at_of a.extents.now i) a.axis) pre.n_in_bounds.1 a.part.now pre.below,
      rw e (below_sort (key_of a.keys.now) a.n a.part.now pre.below),
    )
