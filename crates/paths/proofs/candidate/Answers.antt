-- `paths::candidate` meets its contract: what its calls promise, and its tests.
use Rattle.paths.specs.Gains.{candidate_of}
use Rattle.paths.proofs.candidate.Goals as goal

pub speed_of_sound-speed-requires : goal.speed_of_sound-speed-requires
unfolding candidate_of
speed_of_sound-speed-requires c = tt

pub sum_of_squares-requires : goal.sum_of_squares-requires
unfolding candidate_of
sum_of_squares-requires c = tt

pub sub3-requires : goal.sub3-requires
unfolding candidate_of
sub3-requires c = tt

pub normalize3-requires : goal.normalize3-requires
unfolding candidate_of
normalize3-requires c = tt

pub returns : goal.returns
unfolding candidate_of
returns c = rw (
  ← c.speed_of_sound-speed.ensures,
  ← c.sum_of_squares.ensures,
  ← c.sub3.ensures,
  ← c.normalize3.ensures,
)
