-- `stages::biv_bounces` meets its contract: by that of `bounces::back`, on the course of the sequence.
use Prim.Native.Nat.{ℕ}
use mathlib.Core.Path.{◌≡◌, sym, ap, ◌∙◌}
use mathlib.Core.List.{[]}
use native.Mathlib.Omega.{arith}
use lib.ListN.{length, get_or}
use lib.Seq.{slice_empty}
use Rattle.float.specs.Literals.{one32}
use Rattle.mirror.specs.Plane.{no_point}
use Rattle.mirror.specs.Rows.{planes_in}
use Rattle.bounces.specs.Bounces.{back_of, plane_on, bounces_of}
use Rattle.bounces.specs.Areas.{trail_of}
use Rattle.paths.proofs.Laws.{path_bounces}
use Rattle.stages.proofs.Courses.{whole, planes_below, bounced_made, bounced_lost}
use Rattle.stages.proofs.biv_bounces.Goals as goal

pub point_from-start-requires : goal.point_from-start-requires
point_from-start-requires c = c.requires.source_len.0

pub point_from-end-requires : goal.point_from-end-requires
point_from-end-requires c = c.requires.source_len.1

pub course_of-course-requires : goal.course_of-course-requires
course_of-course-requires c =
    let held = c.requires.planes_lent.held in record {
      count_in_bounds = (held.floats_room, held.words_room, c.requires.in_bounds.1);
      by_index = c.requires.by_index;
    }

pub back-made-requires : goal.back-made-requires
back-made-requires c =
    let a = c.args in
    let is = c.course_of-course.ensures in
    let l = c.course_of-course.result.seq in record {
      planes_lent = c.requires.planes_lent;
      k_le_order = (omega arith, c.requires.in_bounds.1);
      by_index = planes_below a.seq.now l a.count (whole a.seq.now l is.planes) c.requires.by_index;
      going = c.no_bounces.ensures.0;
    }

pub put_points-requires : goal.put_points-requires
put_points-requires c = c.requires.source_len.2

pub put_points-requires-in-Err : goal.put_points-requires-in-Err
put_points-requires-in-Err c = c.requires.source_len.2

pub returns-in-Ok-clause-bounced : goal.returns-in-Ok-clause-bounced
returns-in-Ok-clause-bounced c = λ tri h.
    let a = c.args in
    let is = c.course_of-course.ensures in
    let l = c.course_of-course.result.seq in
    let n : ℕ = length a.seq.now in
    let planes = planes_in a.plane_floats.now a.plane_words.now a.plane_triangles.now a.plane_edges.now a.count in
    let back : trail_of c.back-made.result n ≡ back_of tri a.fade (plane_on planes l) (λ j. get_or c.course_of-course.result.images j no_point) n c.point_from-end.result one32 [] [] =
    rw (c.no_bounces.ensures.1, slice_empty n c.no_bounces.result.points, slice_empty n c.no_bounces.result.tris) at (c.back-made.ensures.by_index_2 tri h) in
    rw (← c.point_from-start.ensures, ← c.point_from-end.ensures)
    (bounced_made c.in-Ok.trail n _ c.put_points.new.points c.requires.in_bounds.1
    (ap (λ r. trail_of r n) (sym c.in-Ok.is) ∙ back
    ∙ path_bounces planes tri c.point_from-start.result c.point_from-end.result l (λ j. get_or c.course_of-course.result.images j no_point) n (omega (arith, is.seq_room, c.requires.in_bounds.1)) (is.mirrored a.plane_triangles.now a.plane_edges.now) a.fade
    ∙ ap (bounces_of tri a.fade planes c.point_from-start.result c.point_from-end.result) (whole a.seq.now l is.planes))
    c.put_points.ensures)

pub returns-in-Err-clause-bounced : goal.returns-in-Err-clause-bounced
returns-in-Err-clause-bounced c = λ tri h.
    let a = c.args in
    let is = c.course_of-course.ensures in
    let l = c.course_of-course.result.seq in
    let n : ℕ = length a.seq.now in
    let planes = planes_in a.plane_floats.now a.plane_words.now a.plane_triangles.now a.plane_edges.now a.count in
    let back : trail_of c.back-made.result n ≡ back_of tri a.fade (plane_on planes l) (λ j. get_or c.course_of-course.result.images j no_point) n c.point_from-end.result one32 [] [] =
    rw (c.no_bounces.ensures.1, slice_empty n c.no_bounces.result.points, slice_empty n c.no_bounces.result.tris) at (c.back-made.ensures.by_index_2 tri h) in
    rw (← c.point_from-start.ensures, ← c.point_from-end.ensures, c.fate_number.ensures)
    (bounced_lost c.in-Err.broken n _ c.put_points-in-Err.new.points
    (ap (λ r. trail_of r n) (sym c.in-Err.is) ∙ back
    ∙ path_bounces planes tri c.point_from-start.result c.point_from-end.result l (λ j. get_or c.course_of-course.result.images j no_point) n (omega (arith, is.seq_room, c.requires.in_bounds.1)) (is.mirrored a.plane_triangles.now a.plane_edges.now) a.fade
    ∙ ap (bounces_of tri a.fade planes c.point_from-start.result c.point_from-end.result) (whole a.seq.now l is.planes)))
