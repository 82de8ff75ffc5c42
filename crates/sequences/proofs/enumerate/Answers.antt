-- `sequences::enumerate` meets its contract: each refusal by its test, and the answer by the law of a run from nothing.
use Rattle.sequences.specs.Allowed.{most}
use Rattle.sequences.proofs.Laws as law
use Rattle.sequences.proofs.enumerate.Goals as goal

pub returns-then-order-gt-MAX_IMAGE_ORDER : goal.returns-then-order-gt-MAX_IMAGE_ORDER
returns-then-order-gt-MAX_IMAGE_ORDER c = let a = c.args in law.refused_order a.on.now a.order a.area.now c.if-order-gt-MAX_IMAGE_ORDER.true

pub returns-then-on-gt-MAX_PLANES : goal.returns-then-on-gt-MAX_PLANES
returns-then-on-gt-MAX_PLANES c =
    let a = c.args in
    law.refused_planes a.on.now a.order a.area.now c.if-order-gt-MAX_IMAGE_ORDER.false c.if-on-gt-MAX_PLANES.true

pub returns-then-area : goal.returns-then-area
returns-then-area c =
    let a = c.args in
    let at-if1 = c.if-order-gt-MAX_IMAGE_ORDER in
    law.refused_room a.on.now a.order a.area.now at-if1.false c.if-on-gt-MAX_PLANES.false c.if-area.true

pub returns-then-order-eq0 : goal.returns-then-order-eq0
returns-then-order-eq0 c =
    let a = c.args in
    let at-if1 = c.if-order-gt-MAX_IMAGE_ORDER in
    let at-if2 = c.if-on-gt-MAX_PLANES in
    law.answered a.on.now a.order a.area.now 0 a.area.now at-if1.false at-if2.false c.if-area.false
    (law.listed_none a.on.now a.order most a.area.now c.if-order-eq0.true)

pub returns : goal.returns
returns c =
    let a = c.args in
    let at-if1 = c.if-order-gt-MAX_IMAGE_ORDER in
    let at-if2 = c.if-on-gt-MAX_PLANES in
    let at-if3 = c.if-area in
    let e = c.expand_images-s in
    law.answered a.on.now a.order a.area.now e.result.nodes e.new.area at-if1.false at-if2.false at-if3.false
    (law.listed_all a.on.now a.order most e.result.nodes a.area.now e.new.area at-if3.false e.ensures.ran)
