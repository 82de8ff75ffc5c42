-- `sequences::expand_images` and `sequences::node` meet their contracts, by the laws of `proofs/Walks.antt`.
use Prim.Native.Nat.{◌+◌, ◌-◌}
use mathlib.Core.Path.{◌≡◌, refl, sym, ◌∙◌}
use native.Mathlib.Omega.{arith}
use lib.ListN.{length}
use Rattle.sequences.specs.Allowed.{upto}
use Rattle.sequences.proofs.Walks as law
use Rattle.sequences.proofs.+expand_images_node.Goals as goal

pub expand_images-loop-p-init : goal.expand_images-loop-p-init
unfolding upto
expand_images-loop-p-init t c =
    let a = c.args in
    (omega arith, refl, law.walked_none a.limit a.depth a.st.nodes a.st.seq a.area.now)

pub expand_images-loop-p-preserved : goal.expand_images-loop-p-preserved
expand_images-loop-p-preserved t c =
    let a = c.args in
    (omega arith, omega arith, law.walked_more a.limit a.depth a.on.now (a.order - (a.depth + 1)) c.loop-p.p c.loop-p.invariant.2 c.node-s.ensures)

pub expand_images-returns : goal.expand_images-returns
expand_images-returns t c =
    let a = c.args in
    law.walked_all a.limit a.depth a.on.now a.order c.loop-p.p (omega arith) (omega arith) c.loop-p.invariant.2

pub node-returns-then-limit-st : goal.node-returns-then-limit-st
node-returns-then-limit-st t c = law.walked_full _ _ _ _ _ _ c.if-limit-st.true

pub node-returns-then-depth-order : goal.node-returns-then-depth-order
node-returns-then-depth-order t c =
    let a = c.args in
    law.walked_visit a.limit a.depth a.on.now (a.order - (a.depth + 1)) a.p a.st.nodes a.st.seq a.area.now
    c.visit-t.result.nodes c.visit-t.result.seq c.visit-t.new.area
    c.expand_images.result.nodes c.expand_images.result.seq c.expand_images.new.area
    c.if-limit-st.false (let l : length a.st.seq ≡ 8 = c.well_formed.1.1.1.1.1.0.1.1.0.1.0.1 in omega arith) (sym c.may.ensures ∙ c.if-may.true) c.visit-t.ensures.same c.visit-t.ensures.seen c.expand_images.ensures

pub node-returns-then-may : goal.node-returns-then-may
node-returns-then-may t c =
    let a = c.args in
    law.walked_last a.limit a.depth a.on.now (a.order - (a.depth + 1)) a.p a.st.nodes a.st.seq a.area.now
    c.visit-t.result.nodes c.visit-t.result.seq c.visit-t.new.area
    c.if-limit-st.false (let l : length a.st.seq ≡ 8 = c.well_formed.1.1.1.1.1.0.1.1.0.1.0.1 in omega arith) (sym c.may.ensures ∙ c.if-may.true) c.visit-t.ensures.same c.visit-t.ensures.seen (omega arith)

pub node-returns : goal.node-returns
node-returns t c =
    let a = c.args in
    law.walked_not a.limit a.depth a.on.now (a.order - (a.depth + 1)) a.p a.st.nodes a.st.seq a.area.now (sym c.may.ensures ∙ c.if-may.false)
