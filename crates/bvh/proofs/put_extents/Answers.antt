-- `bvh::put_extents` meets its contract: the rows so far are those of the triangles so far.
use mathlib.Core.Path.{refl, ap, ◌∙◌}
use native.Mathlib.Omega.{arith}
use Rattle.bvh.proofs.Laws as law
use Rattle.geometry.specs.declared.Triangle.{Triangle}
use Rattle.geometry.specs.Aabb.{from_corners_of}
use Rattle.geometry.specs.Triangle as triangle
use Rattle.bvh.specs.Bvh.{aabb_of, centroid_in}
use Rattle.bvh.proofs.put_extents.Goals as goal

pub loop-i-init : goal.loop-i-init
loop-i-init c = let a = c.args in (omega arith, refl, law.extents_none a.triangles.now a.handles.now a.n a.extents.now)

pub triangle_at-t-requires : goal.triangle_at-t-requires
triangle_at-t-requires c = let p = c.requires in let t = c.loop-i-test.true in (p.0, p.1, omega arith)

pub put_extent-requires : goal.put_extent-requires
put_extent-requires c = let p = c.requires in let l = c.loop-i.invariant.1 in let t = c.loop-i-test.true in omega arith

pub loop-i-preserved : goal.loop-i-preserved
unfolding aabb_of centroid_in
loop-i-preserved c =
    let a = c.args in
    let p = c.requires in
    let inv = c.loop-i.invariant in
    let long = inv.1 in
    let t = c.loop-i-test.true in
    let e = c.triangle_at-t.ensures in (
      omega arith,
      c.put_extent.auto.extents ∙ inv.1,
      law.extents_more a.triangles.now a.handles.now a.n c.loop-i.extents c.put_extent.new.extents c.loop-i.i c.from_corners.result c.centroid.result (omega arith)
          c.put_extent.ensures (c.from_corners.ensures ∙ ap (λ (x : Triangle). from_corners_of x.a x.b x.c) e) (c.centroid.ensures ∙ ap triangle.centroid_of e) inv.2,
    )

pub shape_of-extents : goal.shape_of-extents
shape_of-extents c = c.loop-i.invariant.1

pub returns : goal.returns
returns c = let a = c.args in law.extents_done a.triangles.now a.handles.now a.n c.loop-i.extents c.loop-i.i a.count c.loop-i-test.false c.loop-i.invariant.2

pub from_corners-requires : goal.from_corners-requires
from_corners-requires c = tt

pub centroid-requires : goal.centroid-requires
centroid-requires c = tt
