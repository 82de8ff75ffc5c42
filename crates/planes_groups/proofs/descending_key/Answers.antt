-- `planes_groups::descending_key` meets its contract: from that of `rank`.
use Rattle.planes_groups.specs.Groups.{key_for_falling}
use Rattle.planes_groups.proofs.descending_key.Goals as goal

pub returns : goal.returns
unfolding key_for_falling
returns c = rw (← c.rank-place.ensures)

pub rank-place-requires : goal.rank-place-requires
rank-place-requires c = tt
