-- `booth::tags::set_planes` meets its contract: each turn is one plane more.
use mathlib.Core.Path.{◌≡◌}
use lib.ListN.{length}
use Rattle.booth.proofs.tags.set_planes.Given as goal

abbrev pub invariant-loop-p : goal.invariant-loop-p
invariant-loop-p l = length l.on ≡ length l.initial.on
