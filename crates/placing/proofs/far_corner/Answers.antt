-- `placing::far_corner` meets its contract: coordinate by coordinate, by the contract of `far`.
use mathlib.Core.Bool.{or_assoc}
use Rattle.placing.specs.Corners.{is_far_corner, far_of}
use Rattle.placing.proofs.far_corner.Goals as goal

pub returns : goal.returns
unfolding is_far_corner
returns c = rw (c.far.ensures, c.far-2.ensures, c.far-3.ensures) (or_assoc (far_of c.args.v.x) (far_of c.args.v.y) (far_of c.args.v.z))
