-- The measure of `segments::walk`: the crossings left.
use Rattle.segments.proofs.+walk.Given as goal

abbrev pub decreases-walk : goal.decreases-walk
decreases-walk l = l.left
