-- The measure of `tree_build::build_sah`: the levels left.
use Rattle.tree_build.proofs.+build_sah.Given as goal

abbrev pub decreases-build_sah : goal.decreases-build_sah
decreases-build_sah l = l.levels
