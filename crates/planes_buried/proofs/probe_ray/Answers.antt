-- `planes_buried::probe_ray` meets its contract: its calls are those of the definition.
use Rattle.planes_buried.specs.Buried.{probe_ray_of}
use Rattle.planes_buried.proofs.probe_ray.Goals as goal

pub returns : goal.returns
unfolding probe_ray_of
returns c = rw (← c.signed-direction.ensures, ← c.centroid.ensures, ← c.beside-origin.ensures)
