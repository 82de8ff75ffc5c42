-- `geometry::pad` meets its contract: by the contracts of `abs` and `max`.
use Rattle.geometry.specs.Slab.{pad_of}
use Rattle.geometry.proofs.pad.Goals as goal

pub returns : goal.returns
unfolding pad_of
returns c = rw (← c.abs.ensures, ← c.abs-2.ensures, ← c.max.ensures)
