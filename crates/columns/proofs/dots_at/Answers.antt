-- `columns::dots_at` meets its contract: its four reads lie in the area, and are those of the definition.
use Rattle.columns.specs.Columns.{dots_at_of}
use mathlib.Core.Path.{refl}
use borrow.Author.Rules.{rules}
use Rattle.columns.proofs.dots_at.Goals as goal

pub overflow_mul-result : goal.overflow_mul-result
unfolding dots_at_of
overflow_mul-result c = search rules

pub overflow_add-result : goal.overflow_add-result
unfolding dots_at_of
overflow_add-result c = search rules

pub offset_bounds-triangles-i : goal.offset_bounds-triangles-i
unfolding dots_at_of
offset_bounds-triangles-i c = search rules

pub bounds-triangles-i : goal.bounds-triangles-i
unfolding dots_at_of
bounds-triangles-i c = search rules

pub overflow_mul-result-2 : goal.overflow_mul-result-2
unfolding dots_at_of
overflow_mul-result-2 c = search rules

pub overflow_add-result-2 : goal.overflow_add-result-2
unfolding dots_at_of
overflow_add-result-2 c = search rules

pub offset_bounds-triangles-i-2 : goal.offset_bounds-triangles-i-2
unfolding dots_at_of
offset_bounds-triangles-i-2 c = search rules

pub bounds-triangles-i-2 : goal.bounds-triangles-i-2
unfolding dots_at_of
bounds-triangles-i-2 c = search rules

pub overflow_mul-result-3 : goal.overflow_mul-result-3
unfolding dots_at_of
overflow_mul-result-3 c = search rules

pub overflow_add-result-3 : goal.overflow_add-result-3
unfolding dots_at_of
overflow_add-result-3 c = search rules

pub offset_bounds-triangles-i-3 : goal.offset_bounds-triangles-i-3
unfolding dots_at_of
offset_bounds-triangles-i-3 c = search rules

pub bounds-triangles-i-3 : goal.bounds-triangles-i-3
unfolding dots_at_of
bounds-triangles-i-3 c = search rules

pub overflow_mul-result-4 : goal.overflow_mul-result-4
unfolding dots_at_of
overflow_mul-result-4 c = search rules

pub overflow_add-result-4 : goal.overflow_add-result-4
unfolding dots_at_of
overflow_add-result-4 c = search rules

pub offset_bounds-triangles-i-4 : goal.offset_bounds-triangles-i-4
unfolding dots_at_of
offset_bounds-triangles-i-4 c = search rules

pub bounds-triangles-i-4 : goal.bounds-triangles-i-4
unfolding dots_at_of
bounds-triangles-i-4 c = search rules

pub returns : goal.returns
unfolding dots_at_of
returns c = refl
