-- `geometry::new_empty` meets its contract: its ends are the constants that the definition has.
use Rattle.geometry.specs.Aabb.{new_empty_of}
use lib.Ieee.{of_bits, neg}
use mathlib.Core.Path.{refl}
use Rattle.geometry.proofs.new_empty.Goals as goal

pub returns : goal.returns
unfolding new_empty_of of_bits neg
returns c = refl
