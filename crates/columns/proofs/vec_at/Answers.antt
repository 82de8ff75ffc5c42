-- `columns::vec_at` meets its contract: its three reads lie in the area, and are those of the definition.
use Rattle.columns.specs.Columns.{vec_at_of}
use mathlib.Core.Path.{refl}
use borrow.Author.Rules.{rules}
use Rattle.columns.proofs.vec_at.Goals as goal

pub offset_bounds-triangles-p : goal.offset_bounds-triangles-p
unfolding vec_at_of
offset_bounds-triangles-p c = search rules

pub bounds-triangles-p : goal.bounds-triangles-p
unfolding vec_at_of
bounds-triangles-p c = search rules

pub overflow_add-result : goal.overflow_add-result
unfolding vec_at_of
overflow_add-result c = search rules

pub offset_bounds-triangles-p-2 : goal.offset_bounds-triangles-p-2
unfolding vec_at_of
offset_bounds-triangles-p-2 c = search rules

pub bounds-triangles-p-2 : goal.bounds-triangles-p-2
unfolding vec_at_of
bounds-triangles-p-2 c = search rules

pub overflow_mul-result : goal.overflow_mul-result
unfolding vec_at_of
overflow_mul-result c = search rules

pub overflow_add-result-2 : goal.overflow_add-result-2
unfolding vec_at_of
overflow_add-result-2 c = search rules

pub offset_bounds-triangles-p-3 : goal.offset_bounds-triangles-p-3
unfolding vec_at_of
offset_bounds-triangles-p-3 c = search rules

pub bounds-triangles-p-3 : goal.bounds-triangles-p-3
unfolding vec_at_of
bounds-triangles-p-3 c = search rules

pub returns : goal.returns
unfolding vec_at_of
returns c = refl
