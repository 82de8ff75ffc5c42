-- `listing::put` meets its contract: one store.
use Rattle.listing.proofs.Writing.{wrote_one}
use Rattle.listing.proofs.put.Goals as goal

pub returns : goal.returns
returns c = let a = c.args in wrote_one a.b a.out.now a.at
