-- `placing::far_corners` meets its contract: corner by corner, by the contract of `far_corner`.
use mathlib.Core.Bool.{or_assoc}
use Rattle.placing.specs.Corners.{has_far_corner, is_far_corner}
use Rattle.placing.proofs.far_corners.Goals as goal

pub returns : goal.returns
unfolding has_far_corner
returns c = rw (c.far_corner.ensures, c.far_corner-2.ensures, c.far_corner-3.ensures) (or_assoc (is_far_corner c.args.a) (is_far_corner c.args.b) (is_far_corner c.args.c))
