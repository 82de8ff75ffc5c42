-- `columns::edges_at` meets its contract: by the contract of `vec_at` at each of its columns, and one read.
use Rattle.columns.specs.Columns.{edges_at_of}
use borrow.Author.Rules.{rules}
use Rattle.columns.proofs.edges_at.Goals as goal

pub overflow_mul-least_det : goal.overflow_mul-least_det
unfolding edges_at_of
overflow_mul-least_det c = search rules

pub overflow_add-least_det : goal.overflow_add-least_det
unfolding edges_at_of
overflow_add-least_det c = search rules

pub offset_bounds-triangles-i : goal.offset_bounds-triangles-i
unfolding edges_at_of
offset_bounds-triangles-i c = search rules

pub bounds-triangles-i : goal.bounds-triangles-i
unfolding edges_at_of
bounds-triangles-i c = search rules

pub overflow_mul-n : goal.overflow_mul-n
unfolding edges_at_of
overflow_mul-n c = search rules

pub overflow_add-i : goal.overflow_add-i
unfolding edges_at_of
overflow_add-i c = search rules

pub vec_at-requires : goal.vec_at-requires
unfolding edges_at_of
vec_at-requires c = search rules

pub overflow_mul-n-2 : goal.overflow_mul-n-2
unfolding edges_at_of
overflow_mul-n-2 c = search rules

pub overflow_add-i-2 : goal.overflow_add-i-2
unfolding edges_at_of
overflow_add-i-2 c = search rules

pub vec_at-requires-2 : goal.vec_at-requires-2
unfolding edges_at_of
vec_at-requires-2 c = search rules

pub returns : goal.returns
unfolding edges_at_of
returns c = rw (← c.vec_at.ensures, ← c.vec_at-2.ensures)
