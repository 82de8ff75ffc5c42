-- `paths::begin` meets its contract: nothing of the way is gone.
use mathlib.Core.Path.{refl}
use Rattle.paths.specs.Visibility.{start_of}
use Rattle.paths.proofs.begin.Goals as goal

pub returns : goal.returns
unfolding start_of
returns c = record {
  value = rw (← c.splat.ensures);
  rays_value = refl;
}

pub splat-requires : goal.splat-requires
splat-requires c = tt
