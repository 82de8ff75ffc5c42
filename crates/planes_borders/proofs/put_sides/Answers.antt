-- `planes_borders::put_sides` meets its contract: three sides after one another (`appended_sides`).
use mathlib.Core.Path.{◌∙◌}
use native.Mathlib.Omega.{arith}
use Rattle.planes_borders.proofs.Storing.{appended_sides}
use Rattle.planes_borders.proofs.put_sides.Goals as goal

pub overflow_mul-n : goal.overflow_mul-n
overflow_mul-n c = let p = c.requires.t_lt_n in omega arith

pub overflow_add-t : goal.overflow_add-t
overflow_add-t c = let p = c.requires.t_lt_n in omega arith

pub overflow_mul-t : goal.overflow_mul-t
overflow_mul-t c = let p = c.requires.t_in_bounds.0 in omega arith

pub put_side-ab-requires : goal.put_side-ab-requires
put_side-ab-requires c = let p = c.requires.t_lt_n in let q = c.requires.t_in_bounds in let e = c.requires.k_in_bounds in record {
  n_in_bounds = (omega arith, omega arith);
  e_in_bounds = (omega (arith, q.0), q.1);
  edge_floats_in_bounds = omega arith;
}

pub overflow_mul-n-2 : goal.overflow_mul-n-2
overflow_mul-n-2 c = let p = c.requires.t_lt_n in omega arith

pub overflow_add-t-2 : goal.overflow_add-t-2
overflow_add-t-2 c = let p = c.requires.t_lt_n in omega arith

pub overflow_mul-n-3 : goal.overflow_mul-n-3
overflow_mul-n-3 c = let p = c.requires.t_lt_n in omega arith

pub overflow_add-t-3 : goal.overflow_add-t-3
overflow_add-t-3 c = let p = c.requires.t_lt_n in omega arith

pub overflow_mul-t-2 : goal.overflow_mul-t-2
overflow_mul-t-2 c = let p = c.requires.t_in_bounds.0 in omega arith

pub overflow_add-t-4 : goal.overflow_add-t-4
overflow_add-t-4 c = let p = c.requires.t_in_bounds.0 in omega arith

pub put_side-bc-requires : goal.put_side-bc-requires
put_side-bc-requires c =
    let p = c.requires.t_lt_n in let q = c.requires.t_in_bounds in let e = c.requires.k_in_bounds in let r = c.put_side-ab.ensures.upper_bound in let k = c.put_side-ab.auto.plane_edges in record {
      n_in_bounds = (omega arith, omega arith);
      e_in_bounds = (omega (arith, q.0), q.1);
      edge_floats_in_bounds = omega arith;
    }

pub overflow_mul-n-4 : goal.overflow_mul-n-4
overflow_mul-n-4 c = let p = c.requires.t_lt_n in omega arith

pub overflow_add-t-5 : goal.overflow_add-t-5
overflow_add-t-5 c = let p = c.requires.t_lt_n in omega arith

pub overflow_mul-t-3 : goal.overflow_mul-t-3
overflow_mul-t-3 c = let p = c.requires.t_in_bounds.0 in omega arith

pub overflow_add-t-6 : goal.overflow_add-t-6
overflow_add-t-6 c = let p = c.requires.t_in_bounds.0 in omega arith

pub put_side-requires : goal.put_side-requires
put_side-requires c =
    let p = c.requires.t_lt_n in let q = c.requires.t_in_bounds in let e = c.requires.k_in_bounds in let r = c.put_side-ab.ensures.upper_bound in let s = c.put_side-bc.ensures.upper_bound in let k = c.put_side-ab.auto.plane_edges in let l = c.put_side-bc.auto.plane_edges in record {
      n_in_bounds = (omega arith, omega arith);
      e_in_bounds = (omega (arith, q.0), q.1);
      edge_floats_in_bounds = omega arith;
    }

pub shape_of-plane_edges : goal.shape_of-plane_edges
shape_of-plane_edges c = c.put_side.auto.plane_edges ∙ c.put_side-bc.auto.plane_edges ∙ c.put_side-ab.auto.plane_edges

pub returns : goal.returns
returns c =
    let a = c.args in let r = c.put_side-ab.ensures.upper_bound in let s = c.put_side-bc.ensures.upper_bound in let v = c.put_side.ensures.upper_bound in record {
      upper_bound = omega arith;
      appended = appended_sides a.triangles.now a.n a.first.now a.uses.now a.t a.plane_edges.now c.put_side-ab.new.plane_edges c.put_side-bc.new.plane_edges c.put_side.new.plane_edges a.k c.put_side-ab.result
          c.put_side-bc.result c.put_side.result c.put_side-ab.ensures.appended c.put_side-bc.ensures.appended c.put_side.ensures.appended;
    }
