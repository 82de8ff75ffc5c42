-- `stages::biv_path` meets its contract: by that of `validate_image_path`, on the course of the sequence.
use native.Mathlib.Omega.{arith}
use Rattle.stages.proofs.Courses.{whole, planes_below, crossings_within_lem, walked_passed, walked_not}
use Rattle.stages.proofs.biv_path.Goals as goal

pub settings_from-s-requires : goal.settings_from-s-requires
settings_from-s-requires c = c.requires.counts_len

pub point_from-from-requires : goal.point_from-from-requires
point_from-from-requires c = c.requires.source_len.0

pub point_from-to-requires : goal.point_from-to-requires
point_from-to-requires c = c.requires.source_len.1

pub course_of-course-requires : goal.course_of-course-requires
course_of-course-requires c =
    let held = c.requires.scene_lent.planes.held in record {
      count_in_bounds = (held.floats_room, held.words_room, c.requires.in_bounds.1);
      by_index = c.requires.by_index;
    }

pub validate_image_path-verdict-requires : goal.validate_image_path-verdict-requires
validate_image_path-verdict-requires c =
    let is = c.course_of-course.ensures in
    let a = c.args in
    let l = c.course_of-course.result.seq in record {
      scene_lent = c.requires.scene_lent;
      order_nonzero = (c.requires.in_bounds.0, c.requires.in_bounds.1, is.seq_room, crossings_within_lem a.counts.now a.setting_floats.now c.settings_from-s.result c.settings_from-s.ensures c.requires.in_bounds.2);
      by_index = planes_below a.seq.now l a.count (whole a.seq.now l is.planes)
          c.requires.by_index;
      by_index_2 = is.mirrored a.plane_triangles.now a.plane_edges.now;
    }

pub bounds-rays-0 : goal.bounds-rays-0
bounds-rays-0 c = omega (arith, c.requires.source_len.3)

pub put_path-requires : goal.put_path-requires
put_path-requires c = c.requires.source_len.2

pub returns-then-path-eq0 : goal.returns-then-path-eq0
returns-then-path-eq0 c =
    λ tri t h.
    let e = rw (whole c.args.seq.now c.course_of-course.result.seq c.course_of-course.ensures.planes) at
    (c.validate_image_path-verdict.ensures.by_index_3 tri t h) in
    rw (
      ← c.settings_from-s.ensures,
      ← c.point_from-from.ensures,
      ← c.point_from-to.ensures,
      ← e,
      c.put_path.ensures,
    ) (walked_passed _ _ _ _ c.flat_path-path.ensures c.if-path-eq0.true)

pub returns : goal.returns
returns c = λ tri t h.
    let e = rw (whole c.args.seq.now c.course_of-course.result.seq
    c.course_of-course.ensures.planes) at (c.validate_image_path-verdict.ensures.by_index_3 tri t h) in
    rw (← c.settings_from-s.ensures, ← c.point_from-from.ensures, ← c.point_from-to.ensures, ← e) (walked_not _ _ _ _ c.flat_path-path.ensures c.if-path-eq0.false)

pub flat_path-path-requires : goal.flat_path-path-requires
flat_path-path-requires c = tt
