-- `exports::least_lengths` meets its contract: the first i stand.
use mathlib.Core.Path.{refl, sym, ◌∙◌}
use Prim.Native.Nat.{◌-◌}
use native.Mathlib.Omega.{arith}
use lib.ListN.{length-set}
use lib.Seq.{take_all}
use Rattle.scene.proofs.Rooms.{small}
use Rattle.exports.specs.Lengths.{least_lengths_of}
use Rattle.exports.proofs.Lengths.{put_one}
use Rattle.exports.proofs.least_lengths.Goals as goal

pub loop-i-init : goal.loop-i-init
loop-i-init c = (omega arith, refl, refl)

pub loop-i-preserved : goal.loop-i-preserved
loop-i-preserved c =
    let a = c.args in
    (omega arith, simp length-set c.loop-i.invariant.1, put_one c.loop-i.lens c.loop-i.i a.t a.room c.loop-i-test.true (omega arith) c.loop-i.invariant.2)

pub returns : goal.returns
returns c =
    let a = c.args in
    sym (take_all c.loop-i.i c.loop-i.lens (omega arith)) ∙ c.loop-i.invariant.2 ∙ take_all c.loop-i.i (least_lengths_of a.t a.room) (omega arith)

pub overflow_mul-lens : goal.overflow_mul-lens
overflow_mul-lens c = omega (arith, small c.loop-i.i c.args.t c.args.room)

pub overflow_mul-lens-in-loop-i : goal.overflow_mul-lens-in-loop-i
overflow_mul-lens-in-loop-i c = omega (arith, small c.loop-i.i c.args.t c.args.room)

pub overflow_add-lens : goal.overflow_add-lens
overflow_add-lens c = omega (arith, small c.loop-i.i c.args.t c.args.room)

pub overflow_add-lens-in-loop-i : goal.overflow_add-lens-in-loop-i
overflow_add-lens-in-loop-i c = omega (arith, small c.loop-i.i c.args.t c.args.room)

pub offset_bounds-lens-i : goal.offset_bounds-lens-i
offset_bounds-lens-i c = omega (arith, small c.loop-i.i c.args.t c.args.room)
