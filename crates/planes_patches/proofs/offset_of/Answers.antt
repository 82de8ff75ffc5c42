-- `planes_patches::offset_of` meets its contract, by its test.
use Rattle.planes_patches.specs.Normal.{offset_of}
use Rattle.planes_patches.proofs.offset_of.Goals as goal

pub dot3-d-requires : goal.dot3-d-requires
unfolding offset_of
dot3-d-requires c = tt

pub is_turned-requires : goal.is_turned-requires
unfolding offset_of
is_turned-requires c = tt

pub returns-then-is_turned : goal.returns-then-is_turned
unfolding offset_of
returns-then-is_turned c = rw (← c.dot3-d.ensures, ← c.is_turned.ensures, c.if-is_turned.true)

pub returns : goal.returns
unfolding offset_of
returns c = rw (← c.dot3-d.ensures, ← c.is_turned.ensures, c.if-is_turned.false)
