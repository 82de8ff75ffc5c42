-- `search::push` meets its contract: the plane and its image are stored.
use mathlib.Core.Path.{refl}
use native.Mathlib.Omega.{arith}
use lib.ListN.{length-set}
use Rattle.search.proofs.push.Goals as goal

pub overflow_mul-depth : goal.overflow_mul-depth
overflow_mul-depth c = omega (arith, c.requires.depth_in_bounds.1, c.well_formed)

pub vec_in-from-requires : goal.vec_in-from-requires
vec_in-from-requires c = omega (arith, c.requires.depth_in_bounds.1)

pub overflow_cast-seq : goal.overflow_cast-seq
overflow_cast-seq c = omega (arith, c.requires.depth_in_bounds.2, c.requires.depth_in_bounds.3)

pub bounds-seq-depth : goal.bounds-seq-depth
bounds-seq-depth c = omega (arith, c.requires.depth_in_bounds.0)

pub overflow_add-depth : goal.overflow_add-depth
overflow_add-depth c = omega (arith, c.requires.depth_in_bounds.1, c.well_formed)

pub overflow_mul-depth-2 : goal.overflow_mul-depth-2
overflow_mul-depth-2 c = omega (arith, c.requires.depth_in_bounds.1, c.well_formed)

pub next_image-requires : goal.next_image-requires
next_image-requires c = (omega (arith, c.requires.depth_in_bounds.2, c.requires.count_in_bounds.0), omega (arith, c.requires.depth_in_bounds.2, c.requires.count_in_bounds.1))

pub put_point-requires : goal.put_point-requires
put_point-requires c = omega (arith, c.requires.depth_in_bounds.1)

pub shape_of-seq : goal.shape_of-seq
shape_of-seq c = length-set c.args.seq.now c.args.depth c.args.p

pub shape_of-images : goal.shape_of-images
shape_of-images c = c.put_point.auto.l

pub returns : goal.returns
returns c = let a = c.args in record {
  seq_after = refl;
  by_index = λ members edges.
      rw (← c.vec_in-from.ensures, ← c.next_image.ensures members edges a.planes.now.count c.requires.depth_in_bounds.2) c.put_point.ensures;
}
