-- `mirror::surface` meets its contract: the run that is lent is the plane's.
use mathlib.Core.Path.{◌≡◌}
use Prim.Native.Nat.{ℕ, ◌+◌, ◌-◌}
use native.Mathlib.Omega.{arith}
use Rattle.mirror.specs.Locate.{surface_of}
use Rattle.mirror.specs.Rows.{tris_of}
use Rattle.mirror.proofs.surface.Goals as goal

-- the run's length, as the code works it out
run : (first count : ℕ) → first + count - first ≡ count
run first count = omega arith

pub spot_on-requires : goal.spot_on-requires
unfolding tris_of
spot_on-requires c = (c.requires.n_in_bounds, rw (run c.args.plane.first c.args.plane.count) c.requires.count_in_bounds.1)

pub returns-then-contains_in_box : goal.returns-then-contains_in_box
unfolding surface_of tris_of
returns-then-contains_in_box c = λ tri es h.
    rw (
      ← c.contains_in_box.ensures (tris_of c.args.plane c.args.plane_triangles.now) es,
      c.if-contains_in_box.true,
      ← rw (run c.args.plane.first c.args.plane.count) at (c.spot_on.ensures tri es (rw (run c.args.plane.first c.args.plane.count) h)),
    )

pub returns : goal.returns
unfolding surface_of
returns c = λ tri es h. rw (← c.contains_in_box.ensures (tris_of c.args.plane c.args.plane_triangles.now) es, c.if-contains_in_box.false)
