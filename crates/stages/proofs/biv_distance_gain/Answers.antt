-- `stages::biv_distance_gain` meets its contract: by the contracts of `curve_of` and `gain`.
use Rattle.stages.proofs.biv_distance_gain.Goals as goal

pub curve_of-curve-requires : goal.curve_of-curve-requires
curve_of-curve-requires c = tt

pub gain-requires : goal.gain-requires
gain-requires c = tt

pub returns : goal.returns
returns c = rw (← c.curve_of-curve.ensures, ← c.gain.ensures)
