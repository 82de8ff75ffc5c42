-- `tree_split::split` meets its contract: no split, or the last sort along the best one's axis.
use mathlib.Core.Path.{◌∙◌}
use native.Mathlib.Omega.{arith}
use Rattle.tree_split.specs.Split.{aabb_at_of, centroid_at_of}
use Rattle.tree_split.proofs.Laws as law
use Rattle.tree_split.proofs.split.Goals as goal

pub search_axes-c-requires : goal.search_axes-c-requires
search_axes-c-requires c = c.requires

pub shape_of-part-then-at-eq0 : goal.shape_of-part-then-at-eq0
shape_of-part-then-at-eq0 c = c.search_axes-c.auto.part

pub shape_of-words-then-at-eq0 : goal.shape_of-words-then-at-eq0
shape_of-words-then-at-eq0 c = c.search_axes-c.auto.words

pub shape_of-scratch-then-at-eq0 : goal.shape_of-scratch-then-at-eq0
shape_of-scratch-then-at-eq0 c = c.search_axes-c.auto.scratch

pub shape_of-areas-then-at-eq0 : goal.shape_of-areas-then-at-eq0
shape_of-areas-then-at-eq0 c = c.search_axes-c.auto.areas

pub returns-then-at-eq0 : goal.returns-then-at-eq0
returns-then-at-eq0 c =
    let same-length-4 = c.search_axes-c.auto.areas in
    let same-length-3 = c.search_axes-c.auto.scratch in
    let same-length-2 = c.search_axes-c.auto.words in
    let a = c.args in
    let S = c.requires in
    let b = aabb_at_of a.extents.now in
    let mid = centroid_at_of a.extents.now in record {
      divides = (
        law.split_none b mid a.part.now c.search_axes-c.new.part c.search_axes-c.result c.search_axes-c.ensures.0 c.if-at-eq0.true,
        c.search_axes-c.ensures.1,
        S.some,
      );
      rest = (same-length-2, same-length-3, same-length-4);
    }

pub sort_by_axis-requires : goal.sort_by_axis-requires
sort_by_axis-requires c =
    let S = c.requires in
    let w = S.words_room in let s = S.scratch_room in
    let k0 = c.search_axes-c.auto.part in
    let k1 = c.search_axes-c.auto.words in
    let k2 = c.search_axes-c.auto.scratch in record {
      below = c.search_axes-c.ensures.1;
      part_in_bounds = (omega arith, omega arith);
      keyed = S.keyed;
    }

pub shape_of-part : goal.shape_of-part
shape_of-part c = c.sort_by_axis.auto.part ∙ c.search_axes-c.auto.part

pub shape_of-words : goal.shape_of-words
shape_of-words c = c.sort_by_axis.auto.words ∙ c.search_axes-c.auto.words

pub shape_of-scratch : goal.shape_of-scratch
shape_of-scratch c = c.sort_by_axis.auto.scratch ∙ c.search_axes-c.auto.scratch

pub shape_of-areas : goal.shape_of-areas
shape_of-areas c = c.search_axes-c.auto.areas

pub returns : goal.returns
returns c =
    let same-length-6 = c.sort_by_axis.auto.words ∙ c.search_axes-c.auto.words in
    let same-length-8 = c.search_axes-c.auto.areas in
    let same-length-7 = c.sort_by_axis.auto.scratch ∙ c.search_axes-c.auto.scratch in
    let a = c.args in
    let S = c.requires in
    let b = aabb_at_of a.extents.now in
    let mid = centroid_at_of a.extents.now in record {
      divides = (
        law.split_some b mid a.part.now c.search_axes-c.new.part c.search_axes-c.result c.search_axes-c.ensures.0 c.sort_by_axis.new.part c.if-at-eq0.false
            c.sort_by_axis.ensures.0,
        c.sort_by_axis.ensures.1,
        law.found_below b mid a.part.now c.search_axes-c.new.part c.search_axes-c.result c.search_axes-c.ensures.0 S.some,
      );
      rest = (same-length-6, same-length-7, same-length-8);
    }
