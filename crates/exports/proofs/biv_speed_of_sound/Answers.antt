-- `exports::biv_speed_of_sound` meets its contract: it is that of `speed_of_sound`.
use Rattle.exports.proofs.biv_speed_of_sound.Goals as goal

pub speed_of_sound-requires : goal.speed_of_sound-requires
speed_of_sound-requires c = tt

pub returns : goal.returns
returns c = c.speed_of_sound.ensures
