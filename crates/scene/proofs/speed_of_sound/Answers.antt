-- `scene::speed_of_sound` meets its contract: its operations in their order, and the contract of `sqrt`.
use Rattle.scene.specs.Speed.{speed_of}
use Rattle.scene.proofs.speed_of_sound.Goals as goal

pub sqrt-requires : goal.sqrt-requires
unfolding speed_of
sqrt-requires c = tt

pub returns : goal.returns
unfolding speed_of
returns c = rw (← c.sqrt.ensures)
