-- `segments::direction` meets its contract, by whether the vector has a length.
use Rattle.vector.specs.Vector.{normalize3_of}
use Rattle.segments.proofs.direction.Goals as goal

pub returns-then-len : goal.returns-then-len
unfolding normalize3_of
returns-then-len c = λ e. rw (← e, c.if-len.true)

pub returns : goal.returns
unfolding normalize3_of
returns c = λ e. rw (← e, c.if-len.false)
