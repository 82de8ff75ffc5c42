-- `planes_importance::half_diag` meets its contract: by those of `distance3` and `max`.
use Rattle.planes_importance.specs.Importance.{half_diag_of}
use Rattle.planes_importance.proofs.half_diag.Goals as goal

pub distance3-requires : goal.distance3-requires
unfolding half_diag_of
distance3-requires c = tt

pub max-requires : goal.max-requires
unfolding half_diag_of
max-requires c = tt

pub returns : goal.returns
unfolding half_diag_of
returns c = rw (← c.distance3.ensures, ← c.max.ensures)
