-- `planes_importance::no_box` meets its contract: by the contract of `infinity`.
use lib.Ieee.{neg}
use Rattle.planes_importance.proofs.no_box.Goals as goal

pub infinity-far-requires : goal.infinity-far-requires
unfolding neg
infinity-far-requires c = tt

pub returns : goal.returns
unfolding neg
returns c = rw c.infinity-far.ensures
