-- `planes_importance::weigh` meets its contract: by the contract of `distance3`.
use Rattle.planes_importance.specs.Importance.{weighed_of}
use Rattle.planes_importance.proofs.weigh.Goals as goal

pub distance3-requires : goal.distance3-requires
unfolding weighed_of
distance3-requires c = tt

pub returns : goal.returns
unfolding weighed_of
returns c = λ b at far. rw (← at, ← far, ← c.distance3.ensures)
