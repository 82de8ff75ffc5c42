-- `segments::offset` meets its contract: its body is the definition.
use Rattle.segments.specs.Segment.{offset_of}
use mathlib.Core.Path.{refl}
use Rattle.segments.proofs.offset.Goals as goal

pub returns : goal.returns
unfolding offset_of
returns c = refl
