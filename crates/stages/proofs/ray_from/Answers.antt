-- `stages::ray_from` meets its contract: by computation.
use mathlib.Core.Path.{refl}
use Rattle.stages.specs.Hits.{given_ray}
use borrow.Author.Rules.{rules}
use Rattle.stages.proofs.ray_from.Goals as goal

pub bounds-ray-0 : goal.bounds-ray-0
unfolding given_ray
bounds-ray-0 c = search rules

pub bounds-ray-1 : goal.bounds-ray-1
unfolding given_ray
bounds-ray-1 c = search rules

pub bounds-ray-2 : goal.bounds-ray-2
unfolding given_ray
bounds-ray-2 c = search rules

pub bounds-ray-3 : goal.bounds-ray-3
unfolding given_ray
bounds-ray-3 c = search rules

pub bounds-ray-4 : goal.bounds-ray-4
unfolding given_ray
bounds-ray-4 c = search rules

pub bounds-ray-5 : goal.bounds-ray-5
unfolding given_ray
bounds-ray-5 c = search rules

pub bounds-ray-6 : goal.bounds-ray-6
unfolding given_ray
bounds-ray-6 c = search rules

pub bounds-ray-7 : goal.bounds-ray-7
unfolding given_ray
bounds-ray-7 c = search rules

pub returns : goal.returns
unfolding given_ray
returns c = refl
