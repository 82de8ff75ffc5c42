-- `geometry::surface_area` meets its contract: the three extents, by the contract of `extent`, in the order of the definition.
use Rattle.geometry.specs.Aabb.{surface_area_of}
use Rattle.geometry.proofs.surface_area.Goals as goal

pub returns : goal.returns
unfolding surface_area_of
returns c = rw (← c.extent-dx.ensures, ← c.extent-dy.ensures, ← c.extent-dz.ensures)
