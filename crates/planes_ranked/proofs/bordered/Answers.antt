-- `planes_ranked::bordered` meets its contract: by the contract of `put_border`.
use mathlib.Core.Path.{◌≡◌, refl}
use Prim.Native.Nat.{◌+◌, ◌-◌}
use native.Mathlib.Omega.{arith}
use Rattle.mirror.specs.Rows.{tris_of}
use Rattle.planes_links.proofs.Linking.{length_part}
use Rattle.planes_ranked.proofs.bordered.Goals as goal

pub overflow_add-to : goal.overflow_add-to
overflow_add-to c = omega (arith, c.requires.count_in_bounds.0, c.well_formed)

pub offset_bounds-plane_triangles-from : goal.offset_bounds-plane_triangles-from
offset_bounds-plane_triangles-from c = omega (arith, c.requires.count_in_bounds.0, c.well_formed)

pub slice_bounds-put_border-end : goal.slice_bounds-put_border-end
slice_bounds-put_border-end c = c.requires.count_in_bounds.0

pub put_border-end-requires : goal.put_border-end-requires
unfolding tris_of
put_border-end-requires c = let p = c.requires in let a = c.args in
    let e : a.plane.first + a.plane.count - a.plane.first ≡ a.plane.count = omega arith in
    let l = length_part a.plane_triangles.now a.plane.first (a.plane.first + a.plane.count) in record {
      n_in_bounds = (p.n_in_bounds.0, p.n_in_bounds.1);
      below = rw (e) p.count_in_bounds.1;
      below_2 = p.n_in_bounds.2;
      tris_in_bounds = omega (arith, l, p.count_in_bounds_2);
    }

pub overflow_sub-p : goal.overflow_sub-p
overflow_sub-p c = let ended = c.put_border-end.ensures.appended.count in omega arith

pub shape_of-plane_edges : goal.shape_of-plane_edges
shape_of-plane_edges c = c.put_border-end.auto.plane_edges

pub returns : goal.returns
unfolding tris_of
returns c = let a = c.args in let f = c.put_border-end.ensures in
    let e : a.plane.first + a.plane.count - a.plane.first ≡ a.plane.count = omega arith in
    let l = length_part a.plane_triangles.now a.plane.first (a.plane.first + a.plane.count) in
    let ended = f.appended.count in
    let back : a.at + (c.put_border-end.result - a.at) ≡ c.put_border-end.result = omega arith in record {
      value = (refl, omega (arith, l, f.upper_bound));
      appended = rw (back, ← e) f.appended;
    }
