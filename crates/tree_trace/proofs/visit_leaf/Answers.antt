-- `tree_trace::visit_leaf` meets its contract: the rest of the leaf from here gives what the whole gives.
use mathlib.Core.Path.{◌≡◌, sym, ap, ◌∙◌}
use Prim.Native.Nat.{ℕ, ◌+◌, ◌-◌}
use native.Mathlib.Omega.{arith}
use lib.ListN.{take, drop, get_or}
use Rattle.tree_trace.specs.Leaf.{visit_of, visit_all_of, LeafRows}
use Rattle.tree_trace.proofs.Laws as law
use Rattle.tree_trace.proofs.visit_leaf.Goals as goal

pub loop-k-preserved : goal.loop-k-preserved
unfolding LeafRows
loop-k-preserved c =
    let a = c.args in
    let p = c.requires in
    let t = c.loop-k-test.true in
    let k = c.loop-k.k in
    let s = c.loop-k.invariant.0 in (
      omega arith,
      λ tri h.
          let e : c.visit-closest.result ≡ visit_of (tri (get_or a.leaf_order.now k 0)) a.ray (get_or a.leaf_order.now k 0) c.loop-k.closest =
          c.visit-closest.ensures ∙ rw (c.corner_at.ensures, c.edges_at.ensures) (law.visit_row (tri (get_or a.leaf_order.now k 0)) a.leaves.now k (get_or a.leaf_order.now k 0) a.ray c.loop-k.closest (h k (omega arith))) in
          ap (visit_all_of tri a.ray (take (a.start + a.len - (k + 1)) (drop (k + 1) a.leaf_order.now))) e
          ∙ sym (law.visit_step tri a.ray a.leaf_order.now k (a.start + a.len) c.loop-k.closest t p.1) ∙ c.loop-k.invariant.1 tri h,
    )

pub returns : goal.returns
returns c =
    let a = c.args in
    let p = c.requires in
    λ tri h.
    sym (law.visit_done tri a.ray a.leaf_order.now c.loop-k.k (a.start + a.len) c.loop-k.closest c.loop-k-test.false)
    ∙ c.loop-k.invariant.1 tri h
    ∙ ap (λ (j : ℕ). visit_all_of tri a.ray (take j (drop a.start a.leaf_order.now)) a.best) {x = a.start + a.len - a.start} {y = a.len} (omega arith)
