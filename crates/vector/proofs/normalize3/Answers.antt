-- `vector::normalize3` meets its contract: by its test of the length, either quotients or +z.
use Rattle.vector.specs.Vector.{normalize3_of}
use Rattle.vector.proofs.normalize3.Goals as goal

pub length3-len-requires : goal.length3-len-requires
unfolding normalize3_of
length3-len-requires c = tt

pub returns-then-len : goal.returns-then-len
unfolding normalize3_of
returns-then-len c = rw (← c.length3-len.ensures, c.if-len.true)

pub returns : goal.returns
unfolding normalize3_of
returns c = rw (← c.length3-len.ensures, c.if-len.false)
