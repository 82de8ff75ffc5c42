-- `geometry::triangle_area` meets its contract: by the contracts of `cross` and `length3`.
use Rattle.geometry.specs.Triangle.{triangle_area_of}
use Rattle.geometry.proofs.triangle_area.Goals as goal

pub returns : goal.returns
unfolding triangle_area_of
returns c = rw (← c.cross.ensures, ← c.length3.ensures)
