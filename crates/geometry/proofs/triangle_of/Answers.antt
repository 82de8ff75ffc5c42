-- `geometry::triangle_of` meets its contract: by its test of the product's length, which is that of `is_degenerate_of` and of `normal_of`.
use Rattle.geometry.specs.Triangle.{is_degenerate_of, normal_of, triangle_of_corners}
use Rattle.geometry.proofs.triangle_of.Goals as goal

pub returns-then-len : goal.returns-then-len
unfolding is_degenerate_of normal_of triangle_of_corners
returns-then-len c = rw (← c.cross-n.ensures, ← c.length3-len.ensures, c.if-len.true)

pub returns : goal.returns
unfolding is_degenerate_of normal_of triangle_of_corners
returns c = rw (← c.cross-n.ensures, ← c.length3-len.ensures, c.if-len.false)
