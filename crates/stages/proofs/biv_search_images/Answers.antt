-- `stages::biv_search_images` meets its contract: by that of `search_images`, with settings and positions read from slices.
use native.Mathlib.Omega.{arith}
use lib.ListN.{length-set}
use Rattle.stages.proofs.Three.{three}
use Rattle.stages.proofs.Courses.{crossings_within_lem}
use Rattle.stages.proofs.biv_search_images.Goals as goal

pub settings_from-s-requires : goal.settings_from-s-requires
settings_from-s-requires c = let p = c.requires.counts_len in (p.0, p.1)

pub point_from-from-requires : goal.point_from-from-requires
point_from-from-requires c = c.requires.source_len.0

pub point_from-to-requires : goal.point_from-to-requires
point_from-to-requires c = c.requires.source_len.1

pub search_images-f-requires : goal.search_images-f-requires
search_images-f-requires c =
    let p = c.requires in
    let a = c.args in
    let q = p.order_le_max_order in record {
      scene_lent = p.scene_lent;
      order_le_max_order = (q.0, q.1, crossings_within_lem a.counts.now a.setting_floats.now c.settings_from-s.result c.settings_from-s.ensures q.2);
      candidate_rows = p.candidate_rows;
    }

pub bounds-found-0 : goal.bounds-found-0
bounds-found-0 c = let h = c.requires.source_len.2 in omega arith

pub bounds-found-1 : goal.bounds-found-1
bounds-found-1 c = let h = c.requires.source_len.2 in simp length-set (omega arith)

pub bounds-found-2 : goal.bounds-found-2
bounds-found-2 c = let h = c.requires.source_len.2 in simp length-set (omega arith)

pub shape_of-candidate_floats : goal.shape_of-candidate_floats
shape_of-candidate_floats c = c.search_images-f.auto.candidate_floats

pub shape_of-candidate_words : goal.shape_of-candidate_words
shape_of-candidate_words c = c.search_images-f.auto.candidate_words

pub shape_of-found : goal.shape_of-found
shape_of-found c = simp length-set

pub returns : goal.returns
returns c =
    record {
      searched = (
          λ tri t reads.
          let f = c.search_images-f.result in
          let k = three c.args.found.now f.images f.rays f.found c.requires.source_len.2 in
          rw (k.zeroth, k.first, k.second, ← c.settings_from-s.ensures, ← c.point_from-from.ensures, ← c.point_from-to.ensures)
          (c.search_images-f.ensures.searched tri t reads)
          );
      rest = (c.search_images-f.auto.candidate_floats, c.search_images-f.auto.candidate_words, simp length-set);
    }
