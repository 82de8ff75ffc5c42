-- `mirror::spot_on` meets its contract, by whether the plane is fitted.
use Rattle.mirror.specs.Locate.{normal_ray_of, spot_of}
use Rattle.mirror.proofs.spot_on.Goals as goal

pub returns-in_err-i : goal.returns-in_err-i
unfolding spot_of normal_ray_of
returns-in_err-i c = λ tri es h. rw (c.if-plane.true, ← c.normal_ray.ensures c.args.plane_triangles.now es, ← c.snap_all.ensures tri h, c.in_err-i.was) c.from_residual.ensures

pub returns-then-plane : goal.returns-then-plane
unfolding spot_of normal_ray_of
returns-then-plane c = λ tri es h. rw (c.if-plane.true, ← c.normal_ray.ensures c.args.plane_triangles.now es, ← c.snap_all.ensures tri h, c.in_ok-i.was, ← c.along.ensures)

pub returns : goal.returns
unfolding spot_of
returns c = λ tri es h. rw (c.if-plane.false, ← c.find.ensures tri h)
