-- `planes_patches::larger_part` meets its contract, by its test.
use Rattle.planes_patches.specs.Normal.{larger_part_of}
use Rattle.planes_patches.proofs.larger_part.Goals as goal

pub abs-requires : goal.abs-requires
unfolding larger_part_of
abs-requires c = tt

pub abs-requires-2 : goal.abs-requires-2
unfolding larger_part_of
abs-requires-2 c = tt

pub returns-then-abs : goal.returns-then-abs
unfolding larger_part_of
returns-then-abs c = rw (← c.abs.ensures, ← c.abs-2.ensures, c.if-abs.true)

pub returns-else-abs : goal.returns-else-abs
unfolding larger_part_of
returns-else-abs c = rw (← c.abs.ensures, ← c.abs-2.ensures, c.if-abs.false)
