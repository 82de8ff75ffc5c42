-- `planes_borders::put_side` meets its contract: an edge more, or none.
use mathlib.Core.Path.{◌∙◌, ◌≡◌, sym}
use mathlib.Core.Bool.{false, true}
use native.Mathlib.Omega.{arith}
use Rattle.planes_borders.proofs.Storing.{appended_none, appended_one}
use Rattle.planes_borders.specs.Uses.{edge_at, is_once_in}
use Rattle.planes_borders.proofs.put_side.Goals as goal

pub is_once-requires : goal.is_once-requires
is_once-requires c = record {
  e_in_bounds = c.requires.e_in_bounds.0;
  below = c.requires.e_in_bounds.1;
}

pub put_edge-requires : goal.put_edge-requires
put_edge-requires c = record {
  n_in_bounds = c.requires.n_in_bounds;
  edge_floats_in_bounds = c.requires.edge_floats_in_bounds;
}

pub shape_of-plane_edges-then-is_once : goal.shape_of-plane_edges-then-is_once
shape_of-plane_edges-then-is_once c = c.put_edge.auto.plane_edges

pub returns-then-is_once : goal.returns-then-is_once
returns-then-is_once c = let a = c.args in
    let once : is_once_in a.first.now a.uses.now a.e ≡ true = sym c.is_once.ensures ∙ c.if-is_once.true in record {
      upper_bound = omega arith;
      appended = rw once (appended_one a.plane_edges.now c.put_edge.new.plane_edges a.k (edge_at a.triangles.now a.n a.p a.q) c.put_edge.ensures.k_after c.put_edge.ensures.beside);
    }

pub returns : goal.returns
returns c = let a = c.args in
    let once : is_once_in a.first.now a.uses.now a.e ≡ false = sym c.is_once.ensures ∙ c.if-is_once.false in record {
      upper_bound = omega arith;
      appended = rw once (appended_none a.plane_edges.now a.k);
    }
