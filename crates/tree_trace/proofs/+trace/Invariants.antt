-- The measure of `tree_trace::trace`: the levels left.
use Rattle.tree_trace.proofs.+trace.Given as goal

abbrev pub decreases-trace : goal.decreases-trace
decreases-trace l = l.fuel
