-- `bounces::back` meets its contract: each turn goes one of three ways.
use mathlib.Core.Path.{◌≡◌, ◌∙◌}
use Prim.Native.Nat.{◌+◌, ◌-◌, ◌<◌}
use native.Mathlib.Omega.{arith}
use Rattle.bounces.specs.Areas.{trail_of}
use Rattle.bounces.proofs.Laws.{back_none, back_lost, back_on}
use Rattle.bounces.proofs.+back.Goals as goal

pub returns-then-k-eq0 : goal.returns-then-k-eq0
returns-then-k-eq0 t c = record {
  by_index_2 = λ tri h. back_none tri _ _ _ _ _ _ _ c.if-k-eq0.true;
  going_2 = c.requires.going;
}

pub returns-in-Err-clause-by_index_2 : goal.returns-in-Err-clause-by_index_2
unfolding trail_of
returns-in-Err-clause-by_index_2 t c = λ tri h. back_lost tri _ _ _ _ _ _ _ _ _ c.if-k-eq0.false (c.bounce_on.ensures tri h) _ c.in-Err.is

pub returns-in-Ok-clause-by_index_2 : goal.returns-in-Ok-clause-by_index_2
returns-in-Ok-clause-by_index_2 t c = let pre = c.requires in
    let a = c.args in
    let next : a.k - 1 + 1 ≡ a.k = omega (arith, c.if-k-eq0.false) in
    let low : a.k - 1 < a.order = omega (arith, c.if-k-eq0.false, pre.k_le_order.0) in
    let made = c.put.ensures in
    λ tri h.
    rw (made.going.1, made.by_index a.order low pre.k_le_order.1, made.by_index_2 a.order low pre.k_le_order.1, next) at (c.back.ensures.by_index_2 tri h)
    ∙ back_on tri _ _ _ _ _ _ _ _ _ c.if-k-eq0.false (c.bounce_on.ensures tri h) _ _ _ c.in-Ok.is
