-- `planes_fit::put_planes` meets its contract: the rows so far are stored.
use Rattle.columns.specs.Columns.{triangle_at_of}
use Rattle.planes_fit.specs.Rows.{plane_row_in}
use Rattle.planes_fit.proofs.Planes.{Placed}
use Rattle.planes_fit.proofs.put_planes.Given as goal

abbrev pub invariant-loop-g : goal.invariant-loop-g
invariant-loop-g l =
    Placed l.initial.group_floats l.initial.group_words (plane_row_in (triangle_at_of l.triangles l.handles l.n) l.rows l.queue l.offsets l.plane_triangles l.mstarts) l.ng l.group_floats l.group_words l.g
