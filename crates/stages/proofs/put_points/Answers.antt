-- `stages::put_points` meets its contract: the points before k stand in their places.
use mathlib.Core.Path.{refl, ◌∙◌}
use native.Mathlib.Omega.{arith}
use Rattle.stages.proofs.Courses.{points_more}
use Rattle.stages.proofs.put_points.Goals as goal

pub loop-k-init : goal.loop-k-init
loop-k-init c = (omega arith, refl, λ j h. absurd (let no : ⊥ = omega arith in no))

pub put_point-requires : goal.put_point-requires
put_point-requires c = omega (arith, c.loop-k-test.true, c.loop-k.invariant.1, c.requires)

pub loop-k-preserved : goal.loop-k-preserved
loop-k-preserved c = (
  omega (arith, c.loop-k-test.true),
  c.put_point.auto.l ∙ c.loop-k.invariant.1,
  rw c.put_point.ensures (points_more c.loop-k.points c.args.all
      c.loop-k.k (omega (arith, c.loop-k.invariant.1, c.requires)) c.loop-k-test.true c.loop-k.invariant.2),
)

pub shape_of-points : goal.shape_of-points
shape_of-points c = c.loop-k.invariant.1

pub returns : goal.returns
returns c = λ j h. c.loop-k.invariant.2 j (omega (arith, c.loop-k-test.false, h))
