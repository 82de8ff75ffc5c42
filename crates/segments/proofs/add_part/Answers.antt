-- `segments::add_part` meets its contract: its body is the definition.
use Rattle.segments.specs.Segment.{add_part_of}
use mathlib.Core.Path.{refl}
use Rattle.segments.proofs.add_part.Goals as goal

pub returns : goal.returns
unfolding add_part_of
returns c = refl
