-- `bands::gain` meets its contract: each step as its definition has it.
use Rattle.bands.specs.Distance.{gain_of}
use Rattle.bands.proofs.gain.Goals as goal

pub held-r-requires : goal.held-r-requires
unfolding gain_of
held-r-requires c = tt

pub held-rolloff-requires : goal.held-rolloff-requires
unfolding gain_of
held-rolloff-requires c = tt

pub held-near-requires : goal.held-near-requires
unfolding gain_of
held-near-requires c = tt

pub furthest-far-requires : goal.furthest-far-requires
unfolding gain_of
furthest-far-requires c = tt

pub between-d-requires : goal.between-d-requires
unfolding gain_of
between-d-requires c = tt

pub by_curve-requires : goal.by_curve-requires
unfolding gain_of
by_curve-requires c = tt

pub held-requires : goal.held-requires
unfolding gain_of
held-requires c = tt

pub returns : goal.returns
unfolding gain_of
returns c = rw (
  ← c.held-r.ensures,
  ← c.held-rolloff.ensures,
  ← c.held-near.ensures,
  ← c.furthest-far.ensures,
  ← c.between-d.ensures,
  ← c.by_curve.ensures,
  ← c.held.ensures,
)
