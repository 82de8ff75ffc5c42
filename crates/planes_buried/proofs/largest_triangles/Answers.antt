-- `planes_buried::largest_triangles` meets its contract: the loop holds it for the triangles before t (`Meeting`).
use mathlib.Core.Path.{refl}
use Prim.Native.Nat.{◌≤◌}
use native.Mathlib.Omega.{arith}
use Rattle.planes_patches.specs.Rows.{none_of}
use Rattle.planes_patches.specs.Triangles.{triangles_in}
use Rattle.planes_patches.proofs.Filling.{triangle_in}
use Rattle.planes_buried.proofs.Best.{meeting_more, meeting_none, numbered_at}
use Rattle.planes_buried.proofs.largest_triangles.Goals as goal

pub loop-t-init : goal.loop-t-init
loop-t-init c = let a = c.args in meeting_none (triangles_in a.triangles.now a.handles.now a.n a.m) a.of.now a.m a.np c.reset.new.areas c.reset.new.largest
    c.reset.new.areas c.reset.new.largest refl refl c.reset.ensures

pub meet-requires : goal.meet-requires
meet-requires c =
    let p = c.requires.n_in_bounds in let q = c.requires.np_le_m in let i = c.loop-t.invariant in let h = c.loop-t-test.true in let la = i.len_areas in let ll = i.len_largest in let ka = c.reset.auto.areas in let kl = c.reset.auto.largest in record {
      n_in_bounds = (p.0, p.1, omega arith, omega arith);
      np_in_bounds = (omega arith, omega arith);
      plane_or_none = numbered_at c.args.of.now c.args.m c.args.np c.loop-t.t c.requires.numbered h p.4;
    }

pub loop-t-preserved : goal.loop-t-preserved
loop-t-preserved c =
    let a = c.args in let ts = triangles_in a.triangles.now a.handles.now a.n a.m in
    let far : a.np ≤ none_of = omega (
      arith,
      c.requires.n_in_bounds.3,
      c.requires.np_le_m.0,
    ) in
    meeting_more ts a.of.now a.m a.np c.reset.new.areas c.reset.new.largest c.loop-t.areas c.loop-t.largest c.loop-t.t c.meet.new.areas c.meet.new.largest c.loop-t.invariant c.loop-t-test.true c.requires.n_in_bounds.4
    c.meet.auto.areas c.meet.auto.largest
    (λ q h. c.meet.ensures ts (triangle_in a.triangles.now a.handles.now a.n a.m c.loop-t.t c.loop-t-test.true) q h far)
