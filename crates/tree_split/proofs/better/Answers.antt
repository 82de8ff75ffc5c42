-- `tree_split::better` meets its contract: by the test.
use Rattle.tree_split.specs.Split.{better_of}
use Rattle.tree_split.proofs.better.Goals as goal

pub returns-then-cost-c : goal.returns-then-cost-c
unfolding better_of
returns-then-cost-c c = rw c.if-cost-c.true

pub returns : goal.returns
unfolding better_of
returns c = rw c.if-cost-c.false
