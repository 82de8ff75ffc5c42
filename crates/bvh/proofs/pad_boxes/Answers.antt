-- `bvh::pad_boxes` meets its contract: the boxes so far are those of the nodes so far, padded.
use mathlib.Core.Path.{refl, ap, ◌∙◌}
use native.Mathlib.Omega.{arith}
use Rattle.bvh.proofs.Laws as law
use Rattle.geometry.specs.Slab.{padded_of}
use Rattle.bvh.proofs.pad_boxes.Goals as goal

pub loop-i-init : goal.loop-i-init
loop-i-init c = let a = c.args in (omega arith, refl, law.padded_none a.boxes.now a.padded.now)

pub box_at-requires : goal.box_at-requires
box_at-requires c = let p = c.requires in let t = c.loop-i-test.true in omega arith

pub put_box-requires : goal.put_box-requires
put_box-requires c = let p = c.requires in let l = c.loop-i.invariant.1 in let t = c.loop-i-test.true in omega arith

pub loop-i-preserved : goal.loop-i-preserved
loop-i-preserved c =
    let a = c.args in
    let p = c.requires in
    let inv = c.loop-i.invariant in
    let long = inv.1 in
    let t = c.loop-i-test.true in (
      omega arith,
      c.put_box.auto.padded ∙ inv.1,
      law.padded_more a.boxes.now c.loop-i.padded c.put_box.new.padded c.loop-i.i c.padded.result (omega arith)
          c.put_box.ensures (c.padded.ensures ∙ ap padded_of c.box_at.ensures) inv.2,
    )

pub shape_of-padded : goal.shape_of-padded
shape_of-padded c = c.loop-i.invariant.1

pub returns : goal.returns
returns c = let a = c.args in law.padded_done a.boxes.now c.loop-i.padded c.loop-i.i a.count c.loop-i-test.false c.loop-i.invariant.2

pub padded-requires : goal.padded-requires
padded-requires c = tt
