-- `vector::distance3` meets its contract: the length of the difference, by the contracts of `sub3` and `length3`.
use Rattle.vector.specs.Vector.{distance3_of}
use Rattle.vector.proofs.distance3.Goals as goal

pub sub3-requires : goal.sub3-requires
unfolding distance3_of
sub3-requires c = tt

pub length3-requires : goal.length3-requires
unfolding distance3_of
length3-requires c = tt

pub returns : goal.returns
unfolding distance3_of
returns c = rw (← c.sub3.ensures, ← c.length3.ensures)
