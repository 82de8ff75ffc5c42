-- `planes_patches::largest_part` meets its contract: its calls are those of the definition.
use Rattle.planes_patches.specs.Normal.{largest_part_of}
use Rattle.planes_patches.proofs.largest_part.Goals as goal

pub larger_part-requires : goal.larger_part-requires
unfolding largest_part_of
larger_part-requires c = tt

pub larger_part-requires-2 : goal.larger_part-requires-2
unfolding largest_part_of
larger_part-requires-2 c = tt

pub returns : goal.returns
unfolding largest_part_of
returns c = rw (← c.larger_part.ensures, ← c.larger_part-2.ensures)
