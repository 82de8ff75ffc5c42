-- `planes_borders::put_point` meets its contract: three stores.
use Prim.Native.Nat.{◌*◌, ◌+◌}
use native.Mathlib.Omega.{arith}
use lib.Seq.{lt-length-set}
use lib.ListN.{get_or, length-set, set}
use lib.Ieee.{nan}
use Rattle.columns.specs.Columns.{vec_at_of}
use Rattle.planes_borders.proofs.Storing.{point_beside, point_stored}
use Rattle.planes_borders.proofs.put_point.Goals as goal

pub bounds-plane_edges-at-2 : goal.bounds-plane_edges-at-2
bounds-plane_edges-at-2 c = let a = c.args in lt-length-set a.plane_edges.now a.at (get_or a.triangles.now a.p nan) (omega arith)

pub bounds-plane_edges-at-3 : goal.bounds-plane_edges-at-3
bounds-plane_edges-at-3 c = let a = c.args in lt-length-set (set a.plane_edges.now a.at (get_or a.triangles.now a.p nan)) (a.at + 1) (get_or a.triangles.now (a.p + a.n) nan) (lt-length-set a.plane_edges.now a.at (get_or a.triangles.now a.p nan) (omega arith))

pub shape_of-plane_edges : goal.shape_of-plane_edges
shape_of-plane_edges c = simp length-set

pub returns : goal.returns
unfolding vec_at_of
returns c = let a = c.args in let x = get_or a.triangles.now a.p nan in let y = get_or a.triangles.now (a.p + a.n) nan in let z = get_or a.triangles.now (a.p + 2 * a.n) nan in record {
  at_after = point_stored a.plane_edges.now a.at x y z c.requires.at_in_bounds;
  beside = point_beside a.plane_edges.now a.at x y z;
}
