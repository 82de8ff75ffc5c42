-- `search::judge` meets its contract: by what the path comes to.
use mathlib.Core.Path.{◌≡◌, refl, sym, ap, ◌∙◌}
use mathlib.Core.Bool.{not}
use native.Mathlib.Omega.{arith}
use lib.Dec.{eqb}
use lib.ListN.{length, take}
use lib.Seq.{length-take-le}
use borrow.Enum.Refused.{opened}
use Rattle.claim.specs.Query.{visit_path}
use Rattle.search.specs.Outcome.{outcome_of}
use Rattle.search.proofs.Laws.{path_most, judged_fails, judged_passes, not_passed, passed}
use Rattle.search.proofs.judge.Goals as goal

pub all_planes-requires : goal.all_planes-requires
all_planes-requires c = c.requires.sound.seq_room

pub all_points-requires : goal.all_points-requires
all_points-requires c = c.requires.sound.images_room

pub validate_image_path-v-requires : goal.validate_image_path-v-requires
validate_image_path-v-requires c = let pre = c.requires in let k = pre.sound in record {
  scene_lent = pre.lent;
  order_nonzero = (pre.some, pre.within, ap length c.all_planes.ensures ∙ k.seq_room, pre.crossings);
  by_index = rw c.all_planes.ensures k.planes;
  by_index_2 = rw c.all_planes.ensures (λ j h. c.all_points.ensures j (omega (arith, h, pre.within)) ∙ k.are j h);
}

pub enum_known-fate : goal.enum_known-fate
enum_known-fate c = c.in-Passed.in-Passed-own.keys1

pub counted-requires : goal.counted-requires
counted-requires c =
    let pre = c.requires in
    let a = c.args in
    let k = pre.sound.cost in
    let m = pre.under in
    let b = path_most a.q.settings.crossing_limit a.len c.validate_image_path-v.result.rays c.validate_image_path-v.ensures.rays_bound pre.crossings pre.within in
    (omega (arith, m), omega (arith, k, m, b))

pub returns-in_default : goal.returns-in_default
unfolding visit_path outcome_of
returns-in_default c = let a = c.args in
    let pre = c.requires in
    rw c.counted.ensures
    (record {
      counted = refl;
      cost = let b = path_most a.q.settings.crossing_limit a.len c.validate_image_path-v.result.rays c.validate_image_path-v.ensures.rays_bound pre.crossings pre.within in omega (arith, b);
      few = pre.sound.few;
      seen =
          λ tri t h.
          judged_fails a.q.room a.t.found a.t.nodes a.t.rays c.validate_image_path-v.result.rays a.candidate_floats.now a.candidate_words.now (not (eqb a.t.over 0)) (take a.len a.seq.now) _
          (ap outcome_of (sym (rw c.all_planes.ensures at (c.validate_image_path-v.ensures.by_index_3 tri t h))) ∙ not_passed c.validate_image_path-v.result.fate c.validate_image_path-v.result.rays (opened c.in_default.in_default-own.keys2));
    })

pub keep-requires : goal.keep-requires
keep-requires c =
    let pre = c.requires in
    let a = c.args in
    let k = pre.sound.cost in
    let m = pre.under in
    let b = path_most a.q.settings.crossing_limit a.len c.validate_image_path-v.result.rays c.validate_image_path-v.ensures.rays_bound pre.crossings pre.within in record {
      len_le_max_order = (pre.within, pre.sound.few);
      nodes_lt_most = (omega (arith, m), omega (arith, k, m, b));
      candidate_rows = pre.room;
    }

pub shape_of-candidate_floats : goal.shape_of-candidate_floats
shape_of-candidate_floats c = c.keep.auto.candidate_floats

pub shape_of-candidate_words : goal.shape_of-candidate_words
shape_of-candidate_words c = c.keep.auto.candidate_words

pub returns : goal.returns
unfolding visit_path outcome_of
returns c = let a = c.args in
    let pre = c.requires in
    let k = c.keep.ensures in
    let long : length (take a.len a.seq.now) ≡ a.len = length-take-le a.len a.seq.now (omega (arith, pre.sound.seq_room, pre.within)) in
    record {
      counted = k.counted;
      cost = let b = path_most a.q.settings.crossing_limit a.len c.validate_image_path-v.result.rays c.validate_image_path-v.ensures.rays_bound pre.crossings pre.within in let e = k.traced in omega (arith, b, e);
      few = k.few;
      seen =
          λ tri t h.
          k.held (take a.len a.seq.now) long
          ∙ judged_passes a.q.room a.t.found a.t.nodes a.t.rays c.validate_image_path-v.result.rays a.candidate_floats.now a.candidate_words.now (not (eqb a.t.over 0)) (take a.len a.seq.now) _ _
          (ap outcome_of (sym (rw c.all_planes.ensures at (c.validate_image_path-v.ensures.by_index_3 tri t h))) ∙ passed c.validate_image_path-v.result.fate c.validate_image_path-v.result.rays _ c.in-Passed.is);
    }
