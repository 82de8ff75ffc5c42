-- `stages::course_of` meets its contract: the first k planes are there, and the images of their beginnings.
use mathlib.Core.Path.{◌≡◌, refl}
use native.Mathlib.Omega.{arith}
use lib.ListN.{length}
use Rattle.stages.proofs.Courses.{course, coursed_none, coursed_more}
use Rattle.stages.proofs.course_of.Goals as goal

pub loop-k-init : goal.loop-k-init
loop-k-init c = (omega arith, λ source h. h)

pub bounds-images-k : goal.bounds-images-k
bounds-images-k c = let a = c.args in let is = c.loop-k.invariant.1 a.source (coursed_none a.plane_floats.now a.plane_words.now a.count a.source a.seq.now) in omega (arith, is.images_room, c.loop-k-test.true, c.requires.count_in_bounds.2)

pub next_image-next-requires : goal.next_image-next-requires
next_image-next-requires c =
    let low = c.requires.by_index c.loop-k.k c.loop-k-test.true in (omega (arith, low, c.requires.count_in_bounds), omega (arith, low, c.requires.count_in_bounds))

pub bounds-planes-k : goal.bounds-planes-k
bounds-planes-k c =
    let a = c.args in let is = c.loop-k.invariant.1 a.source (coursed_none a.plane_floats.now a.plane_words.now a.count a.source a.seq.now) in omega (
      arith,
      is.seq_room,
      c.loop-k-test.true,
      c.requires.count_in_bounds.2,
    )

pub overflow_add-images : goal.overflow_add-images
overflow_add-images c = omega (arith, c.loop-k-test.true, c.requires.count_in_bounds.2)

pub bounds-images-k-in-loop-k : goal.bounds-images-k-in-loop-k
bounds-images-k-in-loop-k c =
    let a = c.args in let is = c.loop-k.invariant.1 a.source (coursed_none a.plane_floats.now a.plane_words.now a.count a.source a.seq.now) in omega (
      arith,
      is.images_room,
      c.loop-k-test.true,
      c.requires.count_in_bounds.2,
    )

pub loop-k-preserved : goal.loop-k-preserved
loop-k-preserved c =
    let a = c.args in (
      omega (arith, c.loop-k-test.true),
      λ source h. coursed_more a.plane_floats.now a.plane_words.now a.count source a.seq.now c.loop-k.k (course c.loop-k.planes c.loop-k.images) _ _ (omega
          (arith, c.loop-k-test.true, c.requires.count_in_bounds.2)) c.loop-k-test.true refl (λ members edges. c.next_image-next.ensures members edges a.count (c.requires.by_index c.loop-k.k
          c.loop-k-test.true)) (c.loop-k.invariant.1 source h),
    )

pub returns : goal.returns
returns c =
    let a = c.args in
    let all : c.loop-k.k ≡ length a.seq.now = omega (arith, c.loop-k-test.false, c.loop-k.invariant.0) in
    rw all at (c.loop-k.invariant.1 a.source (coursed_none a.plane_floats.now a.plane_words.now a.count a.source a.seq.now))
