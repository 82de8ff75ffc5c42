-- `planes_borders::put_edge` meets its contract: two points, of which the second leaves the first.
use mathlib.Core.Path.{◌∙◌}
use native.Mathlib.Omega.{arith}
use Rattle.columns.specs.Columns.{vec_at_of}
use Rattle.planes_borders.proofs.Storing.{edge_beside, edge_stored}
use Rattle.planes_borders.specs.Uses.{edge_at}
use Rattle.planes_borders.proofs.put_edge.Goals as goal

pub put_point-requires : goal.put_point-requires
put_point-requires c = record {
  n_in_bounds = c.requires.n_in_bounds.0;
  at_in_bounds = omega (arith, c.requires.edge_floats_in_bounds);
}

pub put_point-requires-2 : goal.put_point-requires-2
put_point-requires-2 c = let k = c.put_point.auto.plane_edges in let p = c.requires.edge_floats_in_bounds in record {
  n_in_bounds = c.requires.n_in_bounds.1;
  at_in_bounds = omega arith;
}

pub shape_of-plane_edges : goal.shape_of-plane_edges
shape_of-plane_edges c = c.put_point-2.auto.plane_edges ∙ c.put_point.auto.plane_edges

pub returns : goal.returns
unfolding edge_at
returns c = let a = c.args in let l = c.put_point.new.plane_edges in let m = c.put_point-2.new.plane_edges in record {
  k_after = edge_stored a.plane_edges.now l m a.k (vec_at_of a.triangles.now a.n a.p) (vec_at_of a.triangles.now a.n a.q) c.put_point.ensures.at_after c.put_point-2.ensures.at_after c.put_point-2.ensures.beside;
  beside = edge_beside a.plane_edges.now l m a.k c.put_point.ensures.beside c.put_point-2.ensures.beside;
}
