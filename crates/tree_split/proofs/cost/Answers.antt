-- `tree_split::cost` meets its contract: by the contract of `count`.
use Rattle.tree_split.specs.Split.{cost_of}
use Rattle.tree_split.proofs.cost.Goals as goal

pub returns : goal.returns
unfolding cost_of
returns c = rw (← c.count.ensures, ← c.count-2.ensures, ← c.count-3.ensures)
