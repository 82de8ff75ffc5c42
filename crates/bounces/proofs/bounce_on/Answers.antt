-- `bounces::bounce_on` meets its contract: the plane's row, its crossing and its point.
use mathlib.Core.Path.{sym, ◌∙◌}
use Rattle.std.proofs.lemmas.Result.{err_from_is_err_and}
use Rattle.mirror.specs.Rows.{tris_of, border_of}
use Rattle.bounces.specs.Areas.{PlanesRead}
use Rattle.bounces.specs.Bounces.{bounce_of}
use Rattle.bounces.proofs.Laws.{plane_row, crossed_err, crossed_ok}
use Rattle.bounces.proofs.bounce_on.Goals as goal

pub returns-in_err-b : goal.returns-in_err-b
unfolding bounce_of
returns-in_err-b c = λ tri h.
    let lost = err_from_is_err_and c.from_residual.result c.from_residual.ensures.1 in
    let a = c.args in
    let row = c.plane_at-plane.result in
    rw (
      plane_row a.planes.now.floats.now a.planes.now.words.now a.planes.now.members.now a.planes.now.edges.now a.planes.now.count a.p c.requires.p_lt_count,
      ← c.plane_at-plane.ensures,
      ← c.crossing.ensures (tris_of row a.planes.now.members.now) (border_of row a.planes.now.edges.now),
      lost.1,
      lost.2,
    ) (crossed_err _ c.crossing.result _ (sym c.ok_or.ensures.value ∙ c.in_err-b.was))

pub returns : goal.returns
unfolding bounce_of PlanesRead
returns c = λ tri h.
    let a = c.args in
    let row = c.plane_at-plane.result in
    rw (
      plane_row a.planes.now.floats.now a.planes.now.words.now a.planes.now.members.now a.planes.now.edges.now a.planes.now.count a.p c.requires.p_lt_count,
      ← c.plane_at-plane.ensures,
      ← c.crossing.ensures (tris_of row a.planes.now.members.now) (border_of row a.planes.now.edges.now),
      crossed_ok c.crossing.result _ (sym c.ok_or.ensures.value ∙ c.in_ok-b.was),
      ← c.locate_on_plane.ensures tri (rw c.plane_at-plane.ensures (h _ c.requires.p_lt_count)),
    ) c.ok_or-2.ensures.value
