-- `planes_importance::plane_key` meets its contract: by the contracts of what it calls.
use Rattle.planes_importance.specs.Importance.{key_in}
use Rattle.planes_importance.proofs.plane_key.Goals as goal

pub mean-c-requires : goal.mean-c-requires
unfolding key_in
mean-c-requires c = tt

pub weigh-requires : goal.weigh-requires
unfolding key_in
weigh-requires c = tt

pub first_of-requires : goal.first_of-requires
unfolding key_in
first_of-requires c = tt

pub descending_key-requires : goal.descending_key-requires
unfolding key_in
descending_key-requires c = tt

pub returns : goal.returns
unfolding key_in
returns c = λ b at far.
    rw (← c.moments_of.ensures, ← c.mean-c.ensures, ← c.weigh.ensures b at far, ← c.first_of.ensures) c.descending_key.ensures
