-- `columns::triangle_at` meets its contract: by the contract of `vec_at` at each of its columns.
use Rattle.columns.specs.Columns.{triangle_at_of}
use borrow.Author.Rules.{rules}
use Rattle.columns.proofs.triangle_at.Goals as goal

pub offset_bounds-handles-i : goal.offset_bounds-handles-i
unfolding triangle_at_of
offset_bounds-handles-i c = search rules

pub bounds-handles-i : goal.bounds-handles-i
unfolding triangle_at_of
bounds-handles-i c = search rules

pub vec_at-requires : goal.vec_at-requires
unfolding triangle_at_of
vec_at-requires c = search rules

pub overflow_mul-n : goal.overflow_mul-n
unfolding triangle_at_of
overflow_mul-n c = search rules

pub overflow_add-i : goal.overflow_add-i
unfolding triangle_at_of
overflow_add-i c = search rules

pub vec_at-requires-2 : goal.vec_at-requires-2
unfolding triangle_at_of
vec_at-requires-2 c = search rules

pub overflow_mul-n-2 : goal.overflow_mul-n-2
unfolding triangle_at_of
overflow_mul-n-2 c = search rules

pub overflow_add-i-2 : goal.overflow_add-i-2
unfolding triangle_at_of
overflow_add-i-2 c = search rules

pub vec_at-requires-3 : goal.vec_at-requires-3
unfolding triangle_at_of
vec_at-requires-3 c = search rules

pub overflow_mul-n-3 : goal.overflow_mul-n-3
unfolding triangle_at_of
overflow_mul-n-3 c = search rules

pub overflow_add-i-3 : goal.overflow_add-i-3
unfolding triangle_at_of
overflow_add-i-3 c = search rules

pub vec_at-requires-4 : goal.vec_at-requires-4
unfolding triangle_at_of
vec_at-requires-4 c = search rules

pub returns : goal.returns
unfolding triangle_at_of
returns c = rw (
  ← c.vec_at.ensures,
  ← c.vec_at-2.ensures,
  ← c.vec_at-3.ensures,
  ← c.vec_at-4.ensures,
)
