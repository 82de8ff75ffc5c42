-- `planes_groups::is_triangle_near` meets its contract: corner by corner.
use Rattle.planes_patches.specs.Lists.{all_by}
use Rattle.planes_patches.specs.Triangles.{corners_of}
use Rattle.planes_groups.proofs.Taking.{and_one}
use Rattle.planes_groups.proofs.is_triangle_near.Goals as goal

pub returns-then-is_near-2 : goal.returns-then-is_near-2
unfolding all_by corners_of
returns-then-is_near-2 c = rw (← c.is_near.ensures, ← c.is_near-then-is_near.ensures, ← c.is_near-then-is_near-2.ensures, c.if-is_near.true, c.if-is_near-2.true) (and_one c.is_near-then-is_near-2.result)

pub returns-then-is_near : goal.returns-then-is_near
unfolding all_by corners_of
returns-then-is_near c = rw (← c.is_near.ensures, ← c.is_near-then-is_near.ensures, c.if-is_near.true, c.if-is_near-2.false)

pub returns : goal.returns
unfolding all_by corners_of
returns c = rw (← c.is_near.ensures, c.if-is_near.false)

pub is_near-requires : goal.is_near-requires
is_near-requires c = tt

pub is_near-requires-then-is_near : goal.is_near-requires-then-is_near
is_near-requires-then-is_near c = tt

pub is_near-requires-then-is_near-2 : goal.is_near-requires-then-is_near-2
is_near-requires-then-is_near-2 c = tt
