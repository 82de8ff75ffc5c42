-- `search::all_points` meets its contract: nine points, one after the other.
use native.Mathlib.Omega.{arith}
use Rattle.search.proofs.Points.{nine_at}
use Rattle.search.proofs.all_points.Goals as goal

pub vec_in-a-requires : goal.vec_in-a-requires
vec_in-a-requires c = omega (arith, c.requires)

pub vec_in-b-requires : goal.vec_in-b-requires
vec_in-b-requires c = omega (arith, c.requires)

pub vec_in-c-requires : goal.vec_in-c-requires
vec_in-c-requires c = omega (arith, c.requires)

pub vec_in-d-requires : goal.vec_in-d-requires
vec_in-d-requires c = omega (arith, c.requires)

pub vec_in-e-requires : goal.vec_in-e-requires
vec_in-e-requires c = omega (arith, c.requires)

pub vec_in-f-requires : goal.vec_in-f-requires
vec_in-f-requires c = omega (arith, c.requires)

pub vec_in-g-requires : goal.vec_in-g-requires
vec_in-g-requires c = omega (arith, c.requires)

pub vec_in-h-requires : goal.vec_in-h-requires
vec_in-h-requires c = omega (arith, c.requires)

pub vec_in-i-requires : goal.vec_in-i-requires
vec_in-i-requires c = omega (arith, c.requires)

pub returns : goal.returns
returns c =
    nine_at c.args.images.now c.vec_in-a.result c.vec_in-b.result c.vec_in-c.result c.vec_in-d.result c.vec_in-e.result
    c.vec_in-f.result c.vec_in-g.result c.vec_in-h.result c.vec_in-i.result c.vec_in-a.ensures c.vec_in-b.ensures c.vec_in-c.ensures c.vec_in-d.ensures c.vec_in-e.ensures
    c.vec_in-f.ensures c.vec_in-g.ensures c.vec_in-h.ensures c.vec_in-i.ensures
