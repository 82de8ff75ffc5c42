-- `search::too_far` meets its contract: `far` of the image that stands there.
use native.Mathlib.Omega.{arith}
use Rattle.search.proofs.too_far.Goals as goal

pub overflow_mul-len : goal.overflow_mul-len
overflow_mul-len c = omega (arith, c.requires)

pub vec_in-requires : goal.vec_in-requires
vec_in-requires c = omega (arith, c.requires)

pub returns : goal.returns
returns c = rw (c.far.ensures, c.vec_in.ensures)

pub far-requires : goal.far-requires
far-requires c = tt
