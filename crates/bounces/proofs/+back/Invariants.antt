-- The measure of `bounces::back`: the bounces left.
use Rattle.bounces.proofs.+back.Given as goal

abbrev pub decreases-back : goal.decreases-back
decreases-back l = l.k
