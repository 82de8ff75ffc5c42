-- `columns::corner_at` meets its contract: by the contract of `vec_at`.
use Rattle.columns.specs.Columns.{vec_at_of}
use borrow.Author.Rules.{rules}
use Rattle.columns.proofs.corner_at.Goals as goal

pub vec_at-requires : goal.vec_at-requires
unfolding vec_at_of
vec_at-requires c = search rules

pub returns : goal.returns
unfolding vec_at_of
returns c = rw (← c.vec_at.ensures)
