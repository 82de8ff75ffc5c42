-- `bounces::turn_on` meets its contract: the plane's row, its crossing and its spot.
use mathlib.Core.Path.{◌≡◌, sym, ◌∙◌}
use Rattle.mirror.specs.Rows.{tris_of, border_of}
use Rattle.mirror.proofs.Laws.{locate_surface}
use Rattle.bounces.specs.Areas.{PlanesRead}
use Rattle.bounces.specs.Bounces.{bounce_of}
use Rattle.bounces.proofs.Laws.{plane_row}
use Rattle.bounces.proofs.turn_on.Goals as goal

pub returns-in_default : goal.returns-in_default
unfolding bounce_of
returns-in_default c =
    λ tri fade h.
    let a = c.args in
    let row = c.plane_at-side.result in
    rw (
      plane_row a.planes.now.floats.now a.planes.now.words.now a.planes.now.members.now a.planes.now.edges.now a.planes.now.count a.p c.requires.p_lt_count,
      ← c.plane_at-side.ensures,
      ← c.crossing.ensures (tris_of row a.planes.now.members.now) (border_of row a.planes.now.edges.now),
      c.in_default.is,
    )

pub returns-in_default-surface : goal.returns-in_default-surface
unfolding bounce_of PlanesRead
returns-in_default-surface c =
    λ tri fade h.
    let a = c.args in
    let row = c.plane_at-side.result in
    let again : c.plane_at-plane.result ≡ row = c.plane_at-plane.ensures ∙ sym c.plane_at-side.ensures in
    rw (
      plane_row a.planes.now.floats.now a.planes.now.words.now a.planes.now.members.now a.planes.now.edges.now a.planes.now.count a.p c.requires.p_lt_count,
      ← c.plane_at-side.ensures,
      ← c.crossing.ensures (tris_of row a.planes.now.members.now) (border_of row a.planes.now.edges.now),
      c.in-Some.is,
      locate_surface,
      ← rw again at (c.surface.ensures tri (border_of row a.planes.now.edges.now) (rw c.plane_at-plane.ensures (h _ c.requires.p_lt_count))),
      c.in_default-surface.is,
    )

pub returns : goal.returns
unfolding bounce_of PlanesRead
returns c =
    λ tri fade h.
    let a = c.args in
    let row = c.plane_at-side.result in
    let again : c.plane_at-plane.result ≡ row = c.plane_at-plane.ensures ∙ sym c.plane_at-side.ensures in
    rw (
      plane_row a.planes.now.floats.now a.planes.now.words.now a.planes.now.members.now a.planes.now.edges.now a.planes.now.count a.p c.requires.p_lt_count,
      ← c.plane_at-side.ensures,
      ← c.crossing.ensures (tris_of row a.planes.now.members.now) (border_of row a.planes.now.edges.now),
      c.in-Some.is,
      locate_surface,
      ← rw again at (c.surface.ensures tri (border_of row a.planes.now.edges.now) (rw c.plane_at-plane.ensures (h _ c.requires.p_lt_count))),
      c.in-Some-surface.is,
    )
