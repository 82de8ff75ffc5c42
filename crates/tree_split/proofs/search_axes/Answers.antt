-- `tree_split::search_axes` meets its contract: the three axes, one after the other (`axes_is`).
use mathlib.Core.Path.{◌∙◌}
use native.Mathlib.Omega.{arith}
use Rattle.tree_split.specs.Split.{aabb_at_of, centroid_at_of}
use Rattle.tree_split.proofs.Laws as law
use Rattle.tree_split.proofs.search_axes.Goals as goal

pub centroid_aabb-m-requires : goal.centroid_aabb-m-requires
centroid_aabb-m-requires c = let S = c.requires in record {
  n_in_bounds = S.wide;
  below = S.inside;
}

pub search_axis-c1-requires : goal.search_axis-c1-requires
search_axis-c1-requires c = let S = c.requires in let k = S.keyed in record {
  n_in_bounds = S.wide;
  below = S.inside;
  part_nonzero = (S.some, S.few);
  part_in_bounds = (S.words_room, S.scratch_room, S.areas_room);
  n_in_bounds_2 = (k.xs, k.xo);
}

pub search_axis-c2-requires : goal.search_axis-c2-requires
search_axis-c2-requires c =
    let S = c.requires in
    let k = S.keyed in
    let some = S.some in let few = S.few in let w = S.words_room in let s = S.scratch_room in let r = S.areas_room in
    let k10 = c.search_axis-c1.auto.part in
    let k11 = c.search_axis-c1.auto.words in
    let k12 = c.search_axis-c1.auto.scratch in
    let k13 = c.search_axis-c1.auto.areas in record {
      n_in_bounds = S.wide;
      below = c.search_axis-c1.ensures.1;
      part_nonzero = (omega arith, omega arith);
      part_in_bounds = (omega arith, omega arith, omega arith);
      n_in_bounds_2 = (k.ys, k.yo);
    }

pub search_axis-requires : goal.search_axis-requires
search_axis-requires c =
    let S = c.requires in
    let k = S.keyed in
    let some = S.some in let few = S.few in let w = S.words_room in let s = S.scratch_room in let r = S.areas_room in
    let k10 = c.search_axis-c1.auto.part in
    let k11 = c.search_axis-c1.auto.words in
    let k12 = c.search_axis-c1.auto.scratch in
    let k13 = c.search_axis-c1.auto.areas in
    let k20 = c.search_axis-c2.auto.part in
    let k21 = c.search_axis-c2.auto.words in
    let k22 = c.search_axis-c2.auto.scratch in
    let k23 = c.search_axis-c2.auto.areas in record {
      n_in_bounds = S.wide;
      below = c.search_axis-c2.ensures.1;
      part_nonzero = (omega arith, omega arith);
      part_in_bounds = (omega arith, omega arith, omega arith);
      n_in_bounds_2 = (k.zs, k.zo);
    }

pub shape_of-part : goal.shape_of-part
shape_of-part c = c.search_axis.auto.part ∙ c.search_axis-c2.auto.part
    ∙ c.search_axis-c1.auto.part

pub shape_of-words : goal.shape_of-words
shape_of-words c = c.search_axis.auto.words ∙ c.search_axis-c2.auto.words
    ∙ c.search_axis-c1.auto.words

pub shape_of-scratch : goal.shape_of-scratch
shape_of-scratch c = c.search_axis.auto.scratch ∙ c.search_axis-c2.auto.scratch
    ∙ c.search_axis-c1.auto.scratch

pub shape_of-areas : goal.shape_of-areas
shape_of-areas c = c.search_axis.auto.areas ∙ c.search_axis-c2.auto.areas
    ∙ c.search_axis-c1.auto.areas

pub returns : goal.returns
returns c =
    let a = c.args in
    let b = aabb_at_of a.extents.now in
    let mid = centroid_at_of a.extents.now in (
      law.axes_is b mid a.part.now c.search_axis-c1.new.part c.search_axis-c2.new.part c.search_axis.new.part
          c.search_axis-c1.result c.search_axis-c2.result c.search_axis.result c.centroid_aabb-m.result c.centroid_aabb-m.ensures c.search_axis-c1.ensures.0 c.search_axis-c2.ensures.0 c.search_axis.ensures.0,
      c.search_axis.ensures.1,
    )
