-- `planes_borders::put_border` meets its contract: the loop holds the border of the first k triangles.
use mathlib.Core.Path.{◌∙◌, refl}
use Prim.Native.Nat.{◌/◌}
use native.Mathlib.Omega.{arith}
use lib.ListN.{length}
use Rattle.planes_borders.proofs.Counting.{below_at}
use Rattle.planes_borders.proofs.Storing.{border_all, border_more, border_none}
use Rattle.planes_borders.proofs.put_border.Goals as goal

pub loop-t-init : goal.loop-t-init
loop-t-init c = let a = c.args in (omega arith, omega arith, refl, border_none a.triangles.now a.n a.first.now a.uses.now a.tris.now a.plane_edges.now a.at)

pub overflow_cast-t : goal.overflow_cast-t
overflow_cast-t c =
    let b = below_at (length c.args.first.now / 3) c.args.tris.now c.loop-t.t-index c.requires.below c.loop-t-test.true in omega arith

pub put_sides-r-requires : goal.put_sides-r-requires
put_sides-r-requires c =
    let b = below_at (length c.args.first.now / 3) c.args.tris.now c.loop-t.t-index c.requires.below c.loop-t-test.true in let p = c.requires.n_in_bounds in let h = c.loop-t-test.true in let i = c.loop-t.invariant in let e = c.requires.tris_in_bounds in record {
      t_lt_n = (omega arith, p.0);
      t_in_bounds = (omega arith, c.requires.below_2);
      k_in_bounds = omega arith;
    }

pub loop-t-preserved : goal.loop-t-preserved
loop-t-preserved c = let a = c.args in let h = c.loop-t-test.true in let i = c.loop-t.invariant.1 in let s = c.put_sides-r.ensures.upper_bound in
    (omega arith, omega arith, c.put_sides-r.auto.plane_edges ∙ c.loop-t.invariant.2, border_more a.triangles.now a.n a.first.now a.uses.now a.tris.now c.loop-t.t-index a.plane_edges.now c.loop-t.plane_edges c.put_sides-r.new.plane_edges a.at c.loop-t.r c.put_sides-r.result h c.loop-t.invariant.3 c.put_sides-r.ensures.appended)

pub shape_of-plane_edges : goal.shape_of-plane_edges
shape_of-plane_edges c = c.loop-t.invariant.2

pub returns : goal.returns
returns c = let a = c.args in let i = c.loop-t.invariant in let h = c.loop-t-test.false in record {
  upper_bound = omega arith;
  appended = border_all a.triangles.now a.n a.first.now a.uses.now a.tris.now c.loop-t.t-index a.plane_edges.now c.loop-t.plane_edges a.at c.loop-t.r (omega arith) c.loop-t.invariant.3;
}
