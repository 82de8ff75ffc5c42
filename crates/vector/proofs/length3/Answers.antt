-- `vector::length3` meets its contract: the root of the product with itself, by the contracts of `dot3` and `sqrt`.
use Rattle.vector.specs.Vector.{length3_of}
use Rattle.vector.proofs.length3.Goals as goal

pub dot3-requires : goal.dot3-requires
unfolding length3_of
dot3-requires c = tt

pub sqrt-requires : goal.sqrt-requires
unfolding length3_of
sqrt-requires c = tt

pub returns : goal.returns
unfolding length3_of
returns c = rw (← c.dot3.ensures, ← c.sqrt.ensures)
