-- `paths::reflected` meets its contract: the triangles from k on are still to be multiplied in.
use mathlib.Core.Path.{◌≡◌, refl, sym, ◌∙◌}
use native.Mathlib.Omega.{arith}
use lib.ListN.{get_or}
use Rattle.paths.specs.Gains.{reflected_of}
use Rattle.paths.proofs.Laws.{fold_step, fold_done}
use Rattle.paths.proofs.reflected.Goals as goal

pub loop-k-init : goal.loop-k-init
loop-k-init c = (omega arith, λ tri h. refl)

pub reflection_of-requires : goal.reflection_of-requires
reflection_of-requires c = rw c.handle_at.ensures (c.requires.by_index _)

pub loop-k-preserved : goal.loop-k-preserved
loop-k-preserved c =
    let a = c.args in (
      omega (arith, c.loop-k-test.true),
      λ tri h.
          rw (c.mul-product.ensures, c.reflection_of.ensures, c.handle_at.ensures, ← h (get_or a.tris c.loop-k.k 0))
          (sym (fold_step _ _ a.tris c.loop-k.k a.order c.loop-k-test.true (omega (arith, c.requires.order_le_max_order))) ∙ c.loop-k.invariant.1 tri h),
    )

pub returns : goal.returns
unfolding reflected_of
returns c =
    let a = c.args in
    let end : c.loop-k.k ≡ a.order = omega (arith, c.loop-k.invariant.0, c.loop-k-test.false) in
    λ tri h. rw (← c.splat-product.ensures) (sym (fold_done _ _ a.tris c.loop-k.k a.order end) ∙ c.loop-k.invariant.1 tri h)

pub splat-product-requires : goal.splat-product-requires
splat-product-requires c = tt

pub handle_at-requires : goal.handle_at-requires
handle_at-requires c = tt

pub mul-product-requires : goal.mul-product-requires
mul-product-requires c = tt
