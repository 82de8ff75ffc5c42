-- `paths::gains` meets its contract: what its calls promise, and its tests.
use Rattle.paths.specs.Gains.{gains_of}
use Rattle.paths.proofs.gains.Goals as goal

pub gain-requires : goal.gain-requires
unfolding gains_of
gain-requires c = tt

pub splat-requires : goal.splat-requires
unfolding gains_of
splat-requires c = tt

pub air_gain-requires : goal.air_gain-requires
unfolding gains_of
air_gain-requires c = tt

pub mul-path-requires : goal.mul-path-requires
unfolding gains_of
mul-path-requires c = tt

pub mul-requires : goal.mul-requires
unfolding gains_of
mul-requires c = tt

pub scale-requires : goal.scale-requires
unfolding gains_of
scale-requires c = tt

pub returns : goal.returns
unfolding gains_of
returns c = rw (
  ← c.gain.ensures,
  ← c.splat.ensures,
  ← c.air_gain.ensures,
  ← c.mul-path.ensures,
  ← c.mul.ensures,
  ← c.scale.ensures,
)
