-- `planes_groups::is_tilted` meets its contract: from those of its calls, and the two tests.
use Rattle.planes_groups.proofs.is_tilted.Goals as goal

pub returns-then-c-least : goal.returns-then-c-least
returns-then-c-least c = rw (← c.dot3.ensures, ← c.abs-c.ensures, c.if-c-least.true)

pub returns : goal.returns
returns c = rw (← c.dot3.ensures, ← c.abs-c.ensures, c.if-c-least.false)

pub dot3-requires : goal.dot3-requires
dot3-requires c = tt

pub abs-c-requires : goal.abs-c-requires
abs-c-requires c = tt
