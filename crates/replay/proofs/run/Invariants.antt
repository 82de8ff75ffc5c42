-- `run` ends, since each turn begins further on.
use Rattle.std.proofs.Common.{length, ◌-◌}
use Rattle.replay.proofs.run.Given as goal

abbrev pub decreases-loop-at : goal.decreases-loop-at
decreases-loop-at g l = length l.all - l.at
