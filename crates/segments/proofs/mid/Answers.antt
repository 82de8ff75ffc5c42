-- `segments::mid` meets its contract: its body is the definition.
use Rattle.segments.specs.Segment.{mid_of}
use mathlib.Core.Path.{refl}
use Rattle.segments.proofs.mid.Goals as goal

pub returns : goal.returns
unfolding mid_of
returns c = refl
