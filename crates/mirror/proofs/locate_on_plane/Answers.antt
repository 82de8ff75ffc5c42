-- `mirror::locate_on_plane` meets its contract: the point's spot, weighed.
use Rattle.mirror.specs.Rows.{border_of}
use Rattle.mirror.proofs.Laws.{locate_surface}
use Rattle.mirror.proofs.locate_on_plane.Goals as goal

pub returns-in_err-i : goal.returns-in_err-i
returns-in_err-i c = λ tri h. rw (locate_surface, ← c.surface.ensures tri (border_of c.args.plane c.args.plane_edges.now) h, c.in_err-i.was) c.from_residual.ensures

pub returns : goal.returns
unfolding border_of
returns c = λ tri h. rw (locate_surface, ← c.surface.ensures tri (border_of c.args.plane c.args.plane_edges.now) h, c.in_ok-i.was, ← c.weight.ensures)
