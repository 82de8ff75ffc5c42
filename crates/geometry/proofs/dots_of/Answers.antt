-- `geometry::dots_of` meets its contract: by the contract of `dot3`.
use Rattle.geometry.specs.Contains.{dots_of_edges}
use Rattle.geometry.proofs.dots_of.Goals as goal

pub returns : goal.returns
unfolding dots_of_edges
returns c = rw (← c.dot3-d00.ensures, ← c.dot3-d01.ensures, ← c.dot3-d11.ensures)
