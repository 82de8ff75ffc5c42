-- `tree_split::search_axis` meets its contract: the axis is left out, or sorted and swept.
use native.Mathlib.Omega.{arith}
use Rattle.tree_split.specs.Split.{aabb_at_of, centroid_at_of}
use Rattle.tree_split.proofs.Laws as law
use Rattle.tree_split.proofs.search_axis.Goals as goal

pub returns-then-span : goal.returns-then-span
returns-then-span c =
    let a = c.args in
    let b = aabb_at_of a.extents.now in
    let mid = centroid_at_of a.extents.now in
    (law.axis_skip b mid a.axis a.span a.part.now a.c c.if-span.true, c.requires.below)

pub sort_by_centroid-requires : goal.sort_by_centroid-requires
sort_by_centroid-requires c = let pre = c.requires in let r = pre.part_in_bounds in record {
  below = pre.below;
  part_in_bounds = (r.0, r.1);
  n_in_bounds = pre.n_in_bounds_2;
}

pub suffix_areas-requires : goal.suffix_areas-requires
suffix_areas-requires c =
    let pre = c.requires in
    let k = c.sort_by_centroid.auto.part in
    let p = pre.part_in_bounds in record {
      n_in_bounds = pre.n_in_bounds;
      below = c.sort_by_centroid.ensures.1;
      part_in_bounds = omega arith;
    }

pub sweep-requires : goal.sweep-requires
sweep-requires c =
    let pre = c.requires in
    let k = c.sort_by_centroid.auto.part in
    let s = c.suffix_areas.auto.areas in
    let p = pre.part_in_bounds in
    let q = pre.part_nonzero in record {
      n_in_bounds = pre.n_in_bounds;
      below = c.sort_by_centroid.ensures.1;
      part_nonzero = (omega arith, omega arith);
      part_in_bounds = omega arith;
      by_index = c.suffix_areas.ensures;
    }

pub shape_of-part : goal.shape_of-part
shape_of-part c = c.sort_by_centroid.auto.part

pub shape_of-words : goal.shape_of-words
shape_of-words c = c.sort_by_centroid.auto.words

pub shape_of-scratch : goal.shape_of-scratch
shape_of-scratch c = c.sort_by_centroid.auto.scratch

pub shape_of-areas : goal.shape_of-areas
shape_of-areas c = c.suffix_areas.auto.areas

pub returns : goal.returns
returns c =
    let a = c.args in
    let b = aabb_at_of a.extents.now in
    let mid = centroid_at_of a.extents.now in (
      law.axis_swept b mid a.axis a.span a.part.now a.c c.sort_by_centroid.new.part c.sweep.result c.if-span.false c.sort_by_centroid.ensures.0 c.sweep.ensures,
      c.sort_by_centroid.ensures.1,
    )
