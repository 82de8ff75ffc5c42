-- `planes_patches::is_turned` meets its contract: its call and its test are those of the definition.
use Rattle.planes_patches.specs.Normal.{is_turned_round}
use Rattle.planes_patches.proofs.is_turned.Goals as goal

pub largest_part-requires : goal.largest_part-requires
unfolding is_turned_round
largest_part-requires c = tt

pub returns : goal.returns
unfolding is_turned_round
returns c = rw (← c.largest_part.ensures)
